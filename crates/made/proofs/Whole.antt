-- The whole file, written part by part.
-- Assumes nothing.
use Prim.Native.Nat.{ℕ, ◌+◌, ◌*◌, ◌<◌, ◌≤◌}
use mathlib.Core.Path.{◌≡◌, refl, sym, ap, ◌∙◌}
use mathlib.Core.Bool.{Bool, true, false, ◌&&◌}
use mathlib.Core.List.{List, [], ◌∷◌, ◌++◌, append_assoc, append-nil}
use native.Mathlib.Omega.{arith}
use borrow.Author.Tests.{leb-true}
use lib.Dec.{leb}
use lib.ListN.{length, set, drop, length-append, length-set}
use Rattle.written.specs.Bytes.{u32, joined, row}
use Rattle.format.specs.Answer.{answer, refused}
use Rattle.format.specs.Listed.{listed, into}
use Rattle.format.proofs.Listing.{into_short, into_list}
use Rattle.written.proofs.Fields.{row_length}
use Rattle.made.specs.File.{made_map, header, leaves, model, plane_part, render_part, clip_part, file_of, is_node_count, made_up}
use Rattle.made.specs.Writing.{put_at, words_of}
use Rattle.made.proofs.Sizes.{plane_size, render_size, clip_size, header_size, leaves_size, model_size, file_size}
use Rattle.made.proofs.Words.{first_words, middle_words, last_words, header_words, leaf_words_lem, model_words_lem}
use Rattle.made.proofs.Writing.{length_written, stored, goes_on}

-- the header, and the zero behind it
pub front_is : (n : ℕ) (l₀ l₁ l₂ l₃ : List ℕ) → 125 ≤ length l₀
    → l₁ ≡ put_at 0 (first_words n) l₀
    → l₂ ≡ put_at 52 (middle_words n) l₁
    → l₃ ≡ put_at 92 (last_words n) l₂
    → (set l₃ 124 0 ≡ put_at 0 (header (made_map n) ++ (0 ∷ [])) l₀) × (length (set l₃ 124 0) ≡ length l₀)
front_is n l₀ l₁ l₂ l₃ h e₁ e₂ e₃ =
    let w₂ = goes_on 0 52 (first_words n) (middle_words n) l₀ l₁ l₂ refl (omega arith) e₁ e₂ in
    let w₃ = goes_on 0 92 (first_words n ++ middle_words n) (last_words n) l₀ l₂ l₃ refl (omega arith) w₂ e₃ in
    let a : l₃ ≡ put_at 0 (header (made_map n)) l₀ = w₃ ∙ ap (λ (r : List ℕ). put_at 0 r l₀) (header_words n) in
    let z = header_size n in
    let b : length l₃ ≡ length l₀ = ap length a ∙ length_written 0 (header (made_map n)) l₀ (omega arith) in
    (goes_on 0 124 (header (made_map n)) (0 ∷ []) l₀ l₃ (set l₃ 124 0) (omega arith) (omega arith) a (stored 124 (0 ∷ []) l₃ (omega arith)), length-set l₃ 124 0 ∙ b)

-- parts joined one by one, and all at once
joins : (a b c d e f g h : List ℕ) → ((((((a ++ b) ++ c) ++ d) ++ e) ++ f) ++ g) ++ h ≡ joined (a ∷ b ∷ c ∷ d ∷ e ∷ f ∷ g ∷ h ∷ [])
joins a b c d e f g h = simp (append_assoc, append-nil)

pub file_is : (seed n : ℕ) (l₀ l₁ l₂ l₃ l₄ l₅ l₆ l₇ : List ℕ) → 249 + n * 52 ≤ length l₀
    → l₁ ≡ put_at 0 (header (made_map n) ++ (0 ∷ [])) l₀
    → l₂ ≡ put_at 125 (row (plane_part seed) n) l₁
    → l₃ ≡ put_at (125 + n * 20) (u32 0) l₂
    → l₄ ≡ put_at (129 + n * 20) (row (render_part seed n) n) l₃
    → l₅ ≡ put_at (129 + n * 44) (row (clip_part seed n) n) l₄
    → l₆ ≡ put_at (129 + n * 52) (words_of (4294967294 ∷ 4294967295 ∷ 0 ∷ 0 ∷ 0 ∷ 0 ∷ 0 ∷ 4294967295 ∷ 4294967295 ∷ 0 ∷ 0 ∷ 0 ∷ 0 ∷ 0 ∷ [])) l₅
    → l₇ ≡ put_at (185 + n * 52) (words_of (0 ∷ 0 ∷ 0 ∷ 0 ∷ 0 ∷ 0 ∷ 0 ∷ 0 ∷ 0 ∷ 0 ∷ 0 ∷ 0 ∷ 0 ∷ 1 ∷ 0 ∷ 0 ∷ [])) l₆
    → l₇ ≡ put_at 0 (file_of seed n) l₀
unfolding file_of
file_is seed n l₀ l₁ l₂ l₃ l₄ l₅ l₆ l₇ h e₁ e₂ e₃ e₄ e₅ e₆ e₇ =
    let a = header_size n in
    let b = row_length (plane_part seed) 20 n (λ i h. plane_size seed i) in
    let c = row_length (render_part seed n) 24 n (λ i h. render_size seed n i) in
    let d = row_length (clip_part seed n) 8 n (λ i h. clip_size seed n i) in
    let e = leaves_size in
    let f = model_size in
    let x₁ = header (made_map n) ++ (0 ∷ []) in
    let x₂ = x₁ ++ row (plane_part seed) n in
    let x₃ = x₂ ++ u32 0 in
    let x₄ = x₃ ++ row (render_part seed n) n in
    let x₅ = x₄ ++ row (clip_part seed n) n in
    let x₆ = x₅ ++ leaves in
    let k₁ : length x₁ ≡ 125 = length-append (header (made_map n)) (0 ∷ []) ∙ ap (λ (k : ℕ). k + 1) a in
    let k₂ : length x₂ ≡ 125 + n * 20 = omega (arith, length-append x₁ (row (plane_part seed) n)) in
    let k₃ : length x₃ ≡ 129 + n * 20 = omega (arith, length-append x₂ (u32 0)) in
    let k₄ : length x₄ ≡ 129 + n * 44 = omega (arith, length-append x₃ (row (render_part seed n) n)) in
    let k₅ : length x₅ ≡ 129 + n * 52 = omega (arith, length-append x₄ (row (clip_part seed n) n)) in
    let k₆ : length x₆ ≡ 185 + n * 52 = omega (arith, length-append x₅ leaves) in
    let w₂ = goes_on 0 125 x₁ (row (plane_part seed) n) l₀ l₁ l₂ (omega arith) (omega arith) e₁ e₂ in
    let w₃ = goes_on 0 (125 + n * 20) x₂ (u32 0) l₀ l₂ l₃ (omega arith) (omega arith) w₂ e₃ in
    let w₄ = goes_on 0 (129 + n * 20) x₃ (row (render_part seed n) n) l₀ l₃ l₄ (omega arith) (omega arith) w₃ e₄ in
    let w₅ = goes_on 0 (129 + n * 44) x₄ (row (clip_part seed n) n) l₀ l₄ l₅ (omega arith) (omega arith) w₄ e₅ in
    let w₆ = goes_on 0 (129 + n * 52) x₅ leaves l₀ l₅ l₆ (omega arith) (omega arith) w₅ (e₆ ∙ ap (λ (r : List ℕ). put_at (129 + n * 52) r l₅) leaf_words_lem) in
    let w₇ = goes_on 0 (185 + n * 52) x₆ model l₀ l₆ l₇ (omega arith) (omega arith) w₆ (e₇ ∙ ap (λ (r : List ℕ). put_at (185 + n * 52) r l₆) model_words_lem) in
    w₇ ∙ ap (λ (r : List ℕ). put_at 0 r l₀) (joins (header (made_map n)) (0 ∷ []) (row (plane_part seed) n) (u32 0) (row (render_part seed n) n) (row (clip_part seed n) n) leaves model)

-- a node count is from 1 to 500
pub count_within : (n : ℕ) → is_node_count n ≡ true → (1 ≤ n) × (n ≤ 500)
unfolding is_node_count
count_within n e = by (leb 1 n) (leb n 500) refl refl e
  where
    by : (s t : Bool) → leb 1 n ≡ s → leb n 500 ≡ t → s && t ≡ true → (1 ≤ n) × (n ≤ 500)
    by true true h k e = (leb-true 1 n h, leb-true n 500 k)
    by true false h k e = let z : ◌≡◌ {A = ℕ} 0 1 = cc in absurd (omega arith)
    by false t h k e = let z : ◌≡◌ {A = ℕ} 0 1 = cc in absurd (omega arith)

-- the three ways out
module _ (seed n : ℕ) (l₀ : List ℕ) where
  pub refuses : is_node_count n ≡ false → listed (refused 29) l₀ ≡ into (made_up seed n) l₀
  unfolding made_up
  refuses h = rw h refl

  module _ (h : is_node_count n ≡ true) where
    pub short : length l₀ < 249 + n * 52 → listed (refused 22) l₀ ≡ into (made_up seed n) l₀
    unfolding made_up
    short g = rw h (into_short l₀ (answer (file_of seed n)) (249 + n * 52) (ap answer (sym (file_size seed n))) g)

    pub fits : (l : List ℕ) → 249 + n * 52 ≤ length l₀ → l ≡ put_at 0 (file_of seed n) l₀ → listed (answer (249 + n * 52)) l ≡ into (made_up seed n) l₀
    unfolding made_up
    fits l g e =
        let z = file_size seed n in
        let y : 0 + length (file_of seed n) ≡ 249 + n * 52 = omega arith in
        let q : l ≡ file_of seed n ++ drop (249 + n * 52) l₀ = e ∙ ap (λ (j : ℕ). file_of seed n ++ drop j l₀) y in
        rw (h, q) (into_list l₀ (answer (file_of seed n)) (249 + n * 52) (file_of seed n) refl (ap answer (sym z)) g)
