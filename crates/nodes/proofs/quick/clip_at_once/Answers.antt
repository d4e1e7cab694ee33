-- `clip_at_once` meets its contract.
-- Assumes nothing.
use Rattle.std.proofs.Common.{ap, sym, ◌∙◌, arith}
use Rattle.nodes.specs.Fast.{u16}
use Rattle.nodes.proofs.Clips.{all_good, neither}
use Rattle.nodes.proofs.Sections.{two_words}
use Rattle.nodes.proofs.quick.clip_at_once.Goals as goal

pub returns : goal.returns
returns c = (
  λ file a w.
      let p = two_words _ _ _ (λ i. omega (arith, c.type_inv.s i)) c.u32_at-both.ensures in
      let v = neither _ _ (sym c.is_either_invalid.ensures ∙ c.if-is_either_invalid.false) in
      all_good _ file a _ _ _ _ w c.requires c.u32_at-plane.ensures c.if-plane-ge2147483648.false p.0 (omega arith) v.0 (p.1 ∙ ap (u16 c.args.s.now) (omega arith)) (omega arith) _ p v.1,
  c.if-planes-plane.false,
)
