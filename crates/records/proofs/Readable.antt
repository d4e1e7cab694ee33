-- What it takes for a record to be readable by its index, and what follows.
-- Assumes nothing.
use Prim.Native.Nat.{ℕ, ◌+◌, ◌*◌, ◌≤◌, ◌<◌}
use mathlib.Core.Path.{◌≡◌, refl, sym, ap, ◌∙◌}
use mathlib.Core.Bool.{true}
use mathlib.Core.List.{List}
use native.Mathlib.Omega.{arith}
use lib.ListN.{length}
use Rattle.format.specs.Answer.{Answer, answer, refused}
use Rattle.format.specs.Step.{Step}
use Rattle.format.specs.Section.{element_size, within_limit, record_count, section_of, place}
use Rattle.format.specs.declared.section.BspData.{BspData}
use Rattle.format.specs.declared.section.BspFileSectionId.{BspFileSectionId}
use Rattle.format.proofs.Places as Places
use Rattle.format.proofs.Places.{Found}
use Rattle.records.specs.Access.{reading, read_at, record_of}

-- Record i was read: its index is below the count, its section is within its limit, its bytes lie in the file from `at` on, and the
-- reader gave the value there.
pub record WasRead {A : Type 0} (id : BspFileSectionId) (one : List ℕ → ℕ → Step A) (s : List ℕ) (m : BspData) (i : ℕ) (v : A) : Type 0 where
  pub at : ℕ
  pub next : ℕ
  pub found : Found id (section_of id m) (length s) i at
  pub reads : one s at ≡ Step.ok v next

module _ {A : Type 0} (id : BspFileSectionId) (one : List ℕ → ℕ → Step A) (s : List ℕ) (m : BspData) (i : ℕ) where
  -- an index at or past the count is 20
  pub past : record_count id (section_of id m) ≤ i → record_of id one s m i ≡ refused 20
  unfolding record_of
  past h = rw (sym (Places.none id (section_of id m) (length s) i refl h))

  -- a record that was read is answered
  pub answered : (v : A) → WasRead id one s m i v → record_of id one s m i ≡ answer v
  unfolding record_of
  answered v r = rw (Places.found_at id (section_of id m) (length s) i r.at r.found) (ap reading r.reads)

  -- and what is answered was read
  pub was_read : (v : A) → record_of id one s m i ≡ answer v → WasRead id one s m i v
  unfolding record_of
  was_read v e = by (place id (section_of id m) (length s) i) refl e
    where
      there : (p : ℕ) → place id (section_of id m) (length s) i ≡ answer p → (x : Step A) → one s p ≡ x → reading x ≡ answer v → WasRead id one s m i v
      there p h (Step.ok w q) g e =
          let c : w ≡ v = cc in
          record { at = p; next = q; found = Places.found id (section_of id m) (length s) i p h; reads = g ∙ ap (λ (u : A). Step.ok u q) c }
      there p h (Step.refused n) g e = let z : ◌≡◌ {A = ℕ} 0 1 = cc in absurd (omega arith)

      by : (x : Answer ℕ) → place id (section_of id m) (length s) i ≡ x → read_at x (λ p. one s p) ≡ answer v → WasRead id one s m i v
      by (answer p) h e = there p h (one s p) refl e
      by (refused n) h e = let z : ◌≡◌ {A = ℕ} 0 1 = cc in absurd (omega arith)

  -- the count is within the section's limit where a record is readable
  pub limited : (v : A) → record_of id one s m i ≡ answer v → within_limit id (record_count id (section_of id m)) ≡ true
  limited v e = (was_read v e).found.limited

  pub counted : (v : A) → record_of id one s m i ≡ answer v → i < record_count id (section_of id m)
  counted v e = (was_read v e).found.counted

-- A record that is readable with two map records which place its section alike is the same with both, whatever else they say. `one` and
-- `one'` are the reader with the counts that each map record gives it; where they both read a value they agree on it.
pub same : {A : Type 0} (id : BspFileSectionId) (one one' : List ℕ → ℕ → Step A) (s : List ℕ) (m m' : BspData) (i : ℕ) (v w : A)
    → ((at : ℕ) (v w : A) (p q : ℕ) → one s at ≡ Step.ok v p → one' s at ≡ Step.ok w q → v ≡ w)
    → (section_of id m).offset ≡ (section_of id m').offset
    → record_of id one s m i ≡ answer v → record_of id one' s m' i ≡ answer w → v ≡ w
same id one one' s m m' i v w agree o e f =
    let a = was_read id one s m i v e in
    let b = was_read id one' s m' i w f in
    let z : a.at ≡ b.at = a.found.is ∙ ap (λ (k : ℕ). k + i * element_size id) o ∙ sym b.found.is in
    agree b.at v w a.next b.next (rw z at a.reads) b.reads
