-- The choice that minimum and maximum make: b where a is a NaN or the test holds, else a. Assumes nothing.
use Rattle.std.proofs.Common.{◌≡◌, Bool, true, false, cond, sym, ap, ◌∙◌}
use lib.Ieee.{Float, is_nan, ne}
use Rattle.float.proofs.WholeLaws.{is_nan_lem, not_nan}

module _ (a b : Float) (test : Bool) where
  abbrev pub chosen : Float
  chosen = cond (is_nan a) b (cond test b a)

  pub at_nan : ne a a ≡ true → b ≡ chosen
  at_nan n = sym (ap (λ (t : Bool). cond t b (cond test b a)) (is_nan_lem a n))

  pub if_held : ne a a ≡ false → test ≡ true → b ≡ chosen
  if_held n h = sym (ap (λ (t : Bool). cond t b (cond test b a)) (not_nan a n) ∙ ap (λ (t : Bool). cond t b a) h)

  pub if_not : ne a a ≡ false → test ≡ false → a ≡ chosen
  if_not n h = sym (ap (λ (t : Bool). cond t b (cond test b a)) (not_nan a n) ∙ ap (λ (t : Bool). cond t b a) h)
