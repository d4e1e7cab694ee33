-- `leaf_code` meets its contract: the number in the file, negated, is the code where the leaf is read.
-- Assumes nothing.
use Rattle.std.proofs.Common.{sym, ◌∙◌, arith, inl, inr}
use Rattle.nodes.proofs.Quicks.{leaf_none, leaf_unseen, leaf_number}
use Rattle.nodes.proofs.quick.leaf_code.Goals.{else-offset-ge2147483648-via-then-offset-ge2147483648+else-offset-lt4294967295, else-offset-ge2147483648-via-else-offset-ge2147483648}
use Rattle.nodes.proofs.quick.leaf_code.Goals as goal

pub returns-then-not-is_code : goal.returns-then-not-is_code
returns-then-not-is_code c =
    leaf_none _ _ c.requires (λ i. omega (arith, c.type_inv.s i)) _ c.u32_at.ensures _ c.wrapping_neg-code.ensures c.wrapping_neg-code.type_inv (sym c.is_code.ensures ∙ c.if-not-is_code.true)

pub returns-then-offset-lt4294967295 : goal.returns-then-offset-lt4294967295
returns-then-offset-lt4294967295 c =
    leaf_unseen _ _ c.requires (λ i. omega (arith, c.type_inv.s i)) _ c.u32_at.ensures _ c.wrapping_neg-code.ensures c.wrapping_neg-code.type_inv (sym c.is_code.ensures ∙ c.if-not-is_code.false)
    _ c.u32_at-offset.ensures c.if-offset-ge2147483648.true c.if-offset-lt4294967295.true

pub returns : goal.returns
returns c =
    leaf_number _ _ c.requires (λ i. omega (arith, c.type_inv.s i)) _ c.u32_at.ensures _ c.wrapping_neg-code.ensures c.wrapping_neg-code.type_inv (sym c.is_code.ensures ∙ c.if-not-is_code.false)
    _ c.u32_at-offset.ensures (elim c.else-offset-ge2147483648.branch [
      | else-offset-ge2147483648-via-then-offset-ge2147483648+else-offset-lt4294967295 w ↦ inr w.if-offset-lt4294967295.false
      | else-offset-ge2147483648-via-else-offset-ge2147483648 w ↦ inl w.if-offset-ge2147483648.false
    ])
