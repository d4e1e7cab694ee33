-- `textures::frame::find_frame` meets its contract: the first texture of the stem, and then the place
-- Assumes nothing.
use Rattle.std.specs.Prelude.{◌≡◌, None}
use Rattle.std.specs.Option.{ok_or}
use Rattle.std.specs.Result.{result_ok}
use Rattle.std.proofs.Common.{arith, refl, ap, sym, ◌∙◌}
use Rattle.format.specs.Answers.{answer_of}
use Rattle.format.specs.declared.refusal.Refusal.TheVariants.{NoSuchRecord}
use Rattle.format.proofs.Answers.{handed_on}
use Rattle.textures.proofs.Places.{frame_of_none, frame_within}
use Rattle.textures.proofs.frame.find_frame.Goals as goal

pub returns-in_err-first : goal.returns-in_err-first
returns-in_err-first c =
    let none : c.first_of-found.result.at ≡ None = c.ok_or.ensures.ok_part ∙ ap result_ok c.in_err-first.was in
    ap answer_of (handed_on c.from_residual.ensures.1 ∙ sym c.in_err-first.was ∙ c.ok_or.ensures.value) ∙ ap (λ o. answer_of (ok_or o NoSuchRecord)) none
    ∙ frame_of_none _ c.args.s.now (λ i. omega (arith, c.type_inv.s i)) _ _ _ _ _ c.count_static-statics.ensures c.if-number-statics.false _ _ c.first_of-found.ensures none

pub returns : goal.returns
returns c = frame_within _ c.args.s.now (λ i. omega (arith, c.type_inv.s i)) _ _ _ _ _ c.count_static-statics.ensures c.if-number-statics.false _ _ c.first_of-found.ensures _ (c.ok_or.ensures.ok_part ∙ ap result_ok c.in_ok-first.was) _ c.key_of-key.ensures _ refl _ c.at_place.ensures
