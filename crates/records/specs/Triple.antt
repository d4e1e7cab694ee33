-- Three fields in a row: a vector of floats (`read_f32_3`), and a point of whole numbers (`read_i16_3`).
use Rattle.std.specs.Prelude.{ℕ, List}
use Rattle.math.specs.declared.vector.Vector3.{Vector3}
use Rattle.format.specs.Step.{Step, ok, and_then}
use Rattle.format.specs.Field.{f32_at, i16_at}
use Rattle.records.specs.declared.triple.Point.{Point}

unfoldable pub vector_at : List ℕ → ℕ → Step Vector3
vector_at s at =
    and_then (f32_at s at) (λ x p.
    and_then (f32_at s p) (λ y q.
    and_then (f32_at s q) (λ z next.
    ok (record { x = x; y = y; z = z }) next)))

unfoldable pub point_at : List ℕ → ℕ → Step Point
point_at s at =
    and_then (i16_at s at) (λ x p.
    and_then (i16_at s p) (λ y q.
    and_then (i16_at s q) (λ z next.
    ok (record { x = x; y = y; z = z }) next)))
