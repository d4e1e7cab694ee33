-- `clip_words` meets its contract: each test refuses with the same number, in whatever order.
-- Assumes nothing.
use Rattle.std.proofs.Common.{sym, ap, ◌∙◌, arith}
use Rattle.nodes.specs.Fast.{u16}
use Rattle.nodes.proofs.Clips.{bad_plane, unless_plane, bad_words, all_good, neither}
use Rattle.nodes.proofs.Sections.{two_words}
use Rattle.nodes.proofs.here.clip_words.Goals as goal

pub returns-then-is_either_invalid : goal.returns-then-is_either_invalid
returns-then-is_either_invalid c = λ file a w.
    let p = two_words _ _ _ (λ i. omega (arith, c.type_inv.s i)) c.u32_at-both.ensures in
    unless_plane _ file a _ _ 0 0 w c.requires c.u32_at-plane.ensures (λ l. bad_words _ file a _ _ _ _ w c.requires c.u32_at-plane.ensures l p.0 (omega arith) (p.1 ∙ ap (u16 c.args.s.now) (omega arith)) (omega arith) (sym c.is_either_invalid.ensures ∙ c.if-is_either_invalid.true))

pub returns-then-plane-ge2147483648 : goal.returns-then-plane-ge2147483648
returns-then-plane-ge2147483648 c = λ file a w. bad_plane _ file a _ _ 0 0 w c.requires c.u32_at-plane.ensures c.if-plane-ge2147483648.true

pub returns : goal.returns
returns c = λ file a w.
    let p = two_words _ _ _ (λ i. omega (arith, c.type_inv.s i)) c.u32_at-both.ensures in
    let good = neither _ _ (sym c.is_either_invalid.ensures ∙ c.if-is_either_invalid.false) in
    all_good _ file a _ _ _ _ w c.requires c.u32_at-plane.ensures c.if-plane-ge2147483648.false p.0 (omega arith) good.0 (p.1 ∙ ap (u16 c.args.s.now) (omega arith)) (omega arith) _ p good.1
