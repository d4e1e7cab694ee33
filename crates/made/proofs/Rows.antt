-- A section with a record for each node, written record by record.
-- Assumes nothing.
use Prim.Native.Nat.{ℕ, ◌+◌, ◌*◌, ◌<◌, ◌≤◌}
use mathlib.Core.Path.{◌≡◌, refl, sym, ap, ◌∙◌}
use mathlib.Core.List.{List}
use native.Mathlib.Nat.{mul-le-mul_right, suc-mul}
use native.Mathlib.Numerals.{add-one}
use native.Mathlib.Omega.{arith}
use lib.ListN.{length}
use Rattle.written.specs.Bytes.{row}
use Rattle.written.proofs.Fields.{row_length}
use Rattle.made.specs.Map.{next, drawn, node_number}
use Rattle.made.specs.File.{plane, render_node, clip_node}
use Rattle.made.specs.Writing.{put_at, size_of, record_bytes, record_of_node}
use Rattle.made.specs.declared.Part.{Part}
use Rattle.made.specs.declared.Part.TheVariants.{Planes, RenderNodes, ClipNodes}
use Rattle.made.proofs.Writing.{length_written, written_none, goes_on}

pub record_size_lem : (part : Part) (n i number : ℕ) → length (record_bytes part n i number) ≡ size_of part
unfolding plane render_node clip_node
record_size_lem Planes n i number = refl
record_size_lem RenderNodes n i number = refl
record_size_lem ClipNodes n i number = refl

-- record i ends within a section of n
pub ends_within : (i n k : ℕ) → i < n → i * k + k ≤ n * k
ends_within i n k h = omega (arith, suc-mul i k, mul-le-mul_right k h)

-- the records of the first i nodes are written, and the rest of the lent list is kept
pub record Rows (part : Part) (seed n : ℕ) (l₀ l : List ℕ) (at last i : ℕ) : Type 0 where
  pub few : i ≤ n
  pub drawn_last : last ≡ drawn seed i
  pub long : length l ≡ length l₀
  pub are : l ≡ put_at at (row (record_of_node part seed n) i) l₀

module _ (part : Part) (seed n : ℕ) (l₀ : List ℕ) (at : ℕ) (h : at + n * size_of part ≤ length l₀) where
  pub rows_none : Rows part seed n l₀ l₀ at seed 0
  unfolding row drawn
  rows_none = record { few = omega arith; drawn_last = refl; long = refl; are = sym (written_none at l₀) }

  pub rows_next : (l l' : List ℕ) (last last' i size : ℕ) → i < n → Rows part seed n l₀ l at last i → size ≡ size_of part → last' ≡ next last
      → l' ≡ put_at (at + i * size) (record_bytes part n i last') l → Rows part seed n l₀ l' at last' (i + 1)
  unfolding row drawn
  rows_next l l' last last' i size k p z q w =
      let d : last' ≡ node_number seed i = q ∙ ap next p.drawn_last in
      let m = record_size_lem part n i (node_number seed i) in
      let e = ends_within i n (size_of part) k in
      let r : l' ≡ put_at (at + i * size_of part) (record_of_node part seed n i) l = rw (z, d) at w in
      rw (add-one i)
      (record {
        few = omega arith;
        drawn_last = d;
        long = ap length r ∙ length_written (at + i * size_of part) (record_of_node part seed n i) l (omega (arith, p.long)) ∙ p.long;
        are =
            goes_on at (at + i * size_of part) (row (record_of_node part seed n) i) (record_of_node part seed n i) l₀ l l'
            (ap (λ (j : ℕ). at + j) (row_length (record_of_node part seed n) (size_of part) i (λ j t. record_size_lem part n j (node_number seed j)))) (omega arith) p.are r;
      })
