-- A line as the library writes it, how long it is, and where it has room. Assumes nothing.
use mathlib.Core.Path.{◌≡◌, refl, sym, ap, ◌∙◌}
use mathlib.Core.List.{List, [], ◌∷◌, ◌++◌, append_assoc}
use Prim.Native.Nat.{ℕ, ◌+◌, ◌%◌, ◌^◌, ◌<◌, ◌≤◌}
use native.Mathlib.Omega.{arith}
use lib.ListN.{length, take, length-append}
use lib.Seq.{take_all, length-take-le, take-append-le, take-append-add, take-take}
use borrow.Author.Tests.{leb-true, leb-false}
use mathlib.Core.Bool.{Bool, true, false, true≢false}
use lib.Dec.{leb}
use Rattle.std.proofs.Common.{Result, Ok, Err, is_ok, OnOk}
use Rattle.std.specs.Fmt as Std
use Rattle.std.proofs.lemmas.Fmt.{decimal_by_steps}
use Rattle.report.specs.Text.{decimal, line, pushed}
use Rattle.report.proofs.Decimals.{decimal_one, decimal_more, short}

-- the library's digits are those of the definitions
decimal_same : (n : ℕ) → n < 2 ^ 64 → Std.decimal n ≡ decimal n
decimal_same = decimal_by_steps (λ n ds. ds ≡ decimal n)
    (λ n h. sym (decimal_one n h))
    (λ n ds h e. ap (λ (t : List ℕ). t ++ ((48 + n % 10) ∷ [])) e ∙ sym (decimal_more n h))

-- how long a line is
pub line_length : (name : List ℕ) (n : ℕ) → n < 2 ^ 32 → length (line name n) ≤ length name + 11
unfolding line
line_length name n h =
    omega (arith, length-append name (decimal n ++ (10 ∷ [])), length-append (decimal n) (10 ∷ []), short 9 n (omega arith))

-- a piece that has room
has_room : (t piece : List ℕ) → length t + length piece ≤ 129 → pushed t piece ≡ t ++ piece
unfolding pushed
has_room t piece h = take_all 129 (t ++ piece) (omega (arith, h, length-append t piece))

-- what is said of an answer that is none of refusal
pub on_ok : {T E : Type 0} (r : Result T E) (P : Type 0) → is_ok r ≡ true → OnOk r P → P
on_ok (Ok x) P h p = p
on_ok (Err e) P h p = absurd (true≢false (sym h))

-- what `put_piece` goes by, with so much room left: the whole piece, or its beginning
module _ (t piece : List ℕ) (r : ℕ) (room : r + length t ≡ 129) where
  pub all_put : length piece ≤ r → t ++ piece ≡ pushed t piece
  all_put h = sym (has_room t piece (omega (arith, room, h)))

  pub part_put : t ++ take r piece ≡ pushed t piece
  unfolding pushed
  part_put = let all : length t + r ≡ 129 = omega (arith, room) in sym (take-append-add t piece r) ∙ ap (λ (k : ℕ). take k (t ++ piece)) all

-- two pieces one after the other are one
module _ (x b : List ℕ) where
  both_by : (c : Bool) → leb (length x) 129 ≡ c → take 129 (take 129 x ++ b) ≡ take 129 (x ++ b)
  both_by true e = ap (λ (w : List ℕ). take 129 (w ++ b)) (take_all 129 x (leb-true (length x) 129 e))
  both_by false e =
      let h = leb-false (length x) 129 e in
      take-append-le 129 (take 129 x) b (omega (arith, length-take-le 129 x (omega (arith, h)))) ∙ take-take 129 129 x (omega arith) ∙ sym (take-append-le 129 x b (omega (arith, h)))

  both : take 129 (take 129 x ++ b) ≡ take 129 (x ++ b)
  both = both_by (leb (length x) 129) refl

pushed_twice : (t a b : List ℕ) → pushed (pushed t a) b ≡ pushed t (a ++ b)
unfolding pushed
pushed_twice t a b = both (t ++ a) b ∙ ap (take 129) (append_assoc t a b)

-- what `put_line` goes by: the name, the digits and the newline are a line
pub line_put : (t name ds : List ℕ) (n : ℕ) → n < 2 ^ 32 → ds ≡ Std.decimal n → pushed (pushed (pushed t name) ds) (10 ∷ []) ≡ pushed t (line name n)
unfolding line
line_put t name ds n h e =
    ap (λ (w : List ℕ). pushed (pushed (pushed t name) w) (10 ∷ [])) (e ∙ decimal_same n (omega arith))
    ∙ pushed_twice (pushed t name) (decimal n) (10 ∷ []) ∙ pushed_twice t name (decimal n ++ (10 ∷ []))

-- a piece put after a text of at most so many bytes
pub after : {t u v : List ℕ} (l : List ℕ) (n k : ℕ) → n + k ≤ 129 → (u ≡ t) × (length u ≤ n) → v ≡ pushed u l → length l ≤ k → (v ≡ t ++ l) × (length v ≤ n + k)
after {t} {u} {v} l n k r p q s =
    let e : v ≡ u ++ l = q ∙ has_room u l (omega (arith, p.1, s, r)) in
    (e ∙ ap (λ (w : List ℕ). w ++ l) p.0, omega (arith, ap length e, length-append u l, p.1, s))

-- a piece put into an empty text
pub alone : (l : List ℕ) → length l ≤ 129 → pushed [] l ≡ l
alone l h = has_room [] l (omega (arith, h))
