-- The steps of the loop over a face's vertices, of the entries from i up to n.
-- Assumes nothing.
use Rattle.std.proofs.Common.{◌≡◌, ℕ, suc, ◌+◌, ◌-◌, ◌<◌, ◌≤◌, List, arith}
use Rattle.format.specs.Answer.{answer, refused}
use Rattle.format.specs.declared.section.BspData.{BspData}
use Rattle.math.specs.declared.vector.Vector3.{Vector3}
use Rattle.records.specs.declared.texinfo.BspTexInfo.{BspTexInfo}
use Rattle.faces.specs.Extents.{corner_of, widened, span_over}
use Rattle.faces.specs.declared.extents.Span.{Span}

module _ (s : List ℕ) (m : BspData) (info : BspTexInfo) (i n : ℕ) (w : Span) where
  pub done : n ≤ i → span_over s m info (n - i) i w ≡ answer w
  unfolding span_over
  done h = let z : n - i ≡ 0 = omega arith in rw z

  pub more : (v : Vector3) → i < n → corner_of s m i ≡ answer v
      → span_over s m info (n - i) i w ≡ span_over s m info (n - (i + 1)) (i + 1) (widened info v w)
  unfolding span_over
  more v h e = let z : n - i ≡ suc (n - (i + 1)) = omega arith in rw (z, e)

  pub stop : (e : ℕ) → i < n → corner_of s m i ≡ refused e → span_over s m info (n - i) i w ≡ refused e
  unfolding span_over
  stop e h q = let z : n - i ≡ suc (n - (i + 1)) = omega arith in rw (z, q)
