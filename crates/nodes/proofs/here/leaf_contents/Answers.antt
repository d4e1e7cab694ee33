-- `leaf_contents` meets its contract: the contents code, then the visibility offset.
-- Assumes nothing.
use Rattle.std.proofs.Common.{◌≡◌, None, sym, ap, ◌∙◌, arith}
use Rattle.std.specs.Result.{result_ok}
use Rattle.std.specs.Option.{ok_or}
use Rattle.format.specs.Answers.{answer_of}
use Rattle.format.specs.declared.refusal.Refusal.TheVariants.{Unreadable}
use Rattle.format.proofs.Answers.{handed_on}
use Rattle.nodes.proofs.Leaves.{low_code, bad_code, bad_vis, no_vis, vis}
use Rattle.nodes.proofs.here.leaf_contents.Goals.{else-offset-ge2147483648-via-then-offset-ge2147483648+else-offset-lt4294967295, else-offset-ge2147483648-via-else-offset-ge2147483648}
use Rattle.nodes.proofs.here.leaf_contents.Goals as goal

pub returns-then-code-lt2147483648 : goal.returns-then-code-lt2147483648
returns-then-code-lt2147483648 c = low_code _ _ _ 0 c.requires c.u32_at-code.ensures c.if-code-lt2147483648.true

pub returns-then-offset-lt4294967295 : goal.returns-then-offset-lt4294967295
returns-then-offset-lt4294967295 c = bad_vis _ _ _ _ c.requires c.u32_at-code.ensures c.if-code-lt2147483648.false (omega arith) _ (omega (arith, c.wrapping_neg.ensures, c.wrapping_neg.type_inv, c.if-code-lt2147483648.false)) _ (sym c.contents_of.ensures ∙ c.ok_or.ensures.ok_part ∙ ap result_ok c.in_ok-contents.was) c.u32_at-offset.ensures c.if-offset-ge2147483648.true c.if-offset-lt4294967295.true

pub returns-in_err-contents : goal.returns-in_err-contents
returns-in_err-contents c =
    let none : c.contents_of.result ≡ None = c.ok_or.ensures.ok_part ∙ ap result_ok c.in_err-contents.was in
    ap answer_of (handed_on c.from_residual.ensures.1 ∙ sym c.in_err-contents.was ∙ c.ok_or.ensures.value) ∙ ap (λ o. answer_of (ok_or o Unreadable)) none
    ∙ bad_code _ _ _ 0 c.requires c.u32_at-code.ensures c.if-code-lt2147483648.false (omega arith) _ (omega (arith, c.wrapping_neg.ensures, c.wrapping_neg.type_inv, c.if-code-lt2147483648.false)) (sym c.contents_of.ensures ∙ none)

pub returns : goal.returns
returns c = elim c.else-offset-ge2147483648.branch [
  | else-offset-ge2147483648-via-then-offset-ge2147483648+else-offset-lt4294967295 w ↦ no_vis _ _ _ _ c.requires c.u32_at-code.ensures c.if-code-lt2147483648.false (omega arith) _ (omega (arith, c.wrapping_neg.ensures, c.wrapping_neg.type_inv, c.if-code-lt2147483648.false)) _ (sym c.contents_of.ensures ∙ c.ok_or.ensures.ok_part ∙ ap result_ok c.in_ok-contents.was) c.u32_at-offset.ensures w.if-offset-lt4294967295.false (omega arith)
  | else-offset-ge2147483648-via-else-offset-ge2147483648 w ↦ vis _ _ _ _ c.requires c.u32_at-code.ensures c.if-code-lt2147483648.false (omega arith) _ (omega (arith, c.wrapping_neg.ensures, c.wrapping_neg.type_inv, c.if-code-lt2147483648.false)) _ (sym c.contents_of.ensures ∙ c.ok_or.ensures.ok_part ∙ ap result_ok c.in_ok-contents.was) c.u32_at-offset.ensures w.if-offset-ge2147483648.false
]
