-- Readers that take a count of the map record: where they read a record with two counts, they read the same.
-- Assumes nothing.
use Prim.Native.Nat.{ℕ}
use mathlib.Core.Path.{◌≡◌, refl}
use mathlib.Core.Bool.{Bool, true, false, cond}
use mathlib.Core.List.{List}
use native.Mathlib.Omega.{arith}
use lib.Dec.{ltb}
use Rattle.format.specs.Answer.{answer}
use Rattle.format.specs.Step.{Step, ok, refused, and_then}
use Rattle.format.specs.Field.{f32_at, index_at}
use Rattle.format.specs.declared.section.BspData.{BspData}
use Rattle.format.specs.declared.section.BspFileSectionId.TheVariants.{TextureInfo}
use Rattle.records.specs.Number.{index16_at, number16_at, number_at, at_most}
use Rattle.records.specs.Triple.{vector_at}
use Rattle.records.specs.Texinfo.{texinfo_at, texinfo_end_at, texinfo_of}
use Rattle.records.specs.declared.texinfo.BspTexInfo.{BspTexInfo}
use Rattle.records.proofs.Readable as Readable

pub record Agree {A : Type 0} (x y : Step A) : Type 0 where
  pub values : (v w : A) (p q : ℕ) → x ≡ ok v p → y ≡ ok w q → v ≡ w
  pub places : (v w : A) (p q : ℕ) → x ≡ ok v p → y ≡ ok w q → p ≡ q

never : {A : Type 0} {n : ℕ} {v : A} {p : ℕ} → refused n ≡ ok v p → ⊥
never e = let z : ◌≡◌ {A = ℕ} 0 1 = cc in omega arith

module _ {A : Type 0} (x : Step A) (v w : A) (p q : ℕ) (e : x ≡ ok v p) (f : x ≡ ok w q) where
  one_value : v ≡ w
  one_value = cc

  one_place : p ≡ q
  one_place = cc

pub agree_self : {A : Type 0} (x : Step A) → Agree x x
agree_self x = record { values = one_value x; places = one_place x }

-- two tests, each of which may refuse
pub agree_tests : {A : Type 0} (t u : Bool) (n : ℕ) {x y : Step A} → Agree x y → Agree (cond t (refused n) x) (cond u (refused n) y)
agree_tests false false n h = h
agree_tests true u n h = record { values = λ v w p q e f. absurd (never e); places = λ v w p q e f. absurd (never e) }
agree_tests false true n h = record { values = λ v w p q e f. absurd (never f); places = λ v w p q e f. absurd (never f) }

-- and what follows
pub agree_then : {A B : Type 0} (x y : Step A) (k l : A → ℕ → Step B) → Agree x y → ((v : A) (p : ℕ) → Agree (k v p) (l v p)) → Agree (and_then x k) (and_then y l)
agree_then (ok a p) (ok b q) k l h g =
    let e : a ≡ b = h.values a b p q refl refl in
    let f : p ≡ q = h.places a b p q refl refl in
    rw (← e, ← f) (g a p)
agree_then (refused n) y k l h g = record { values = λ v w p q e f. absurd (never e); places = λ v w p q e f. absurd (never e) }
agree_then (ok a p) (refused m) k l h g = record { values = λ v w p q e f. absurd (never f); places = λ v w p q e f. absurd (never f) }

pub agree_after : {A B : Type 0} (x : Step A) (k l : A → ℕ → Step B) → ((v : A) (p : ℕ) → Agree (k v p) (l v p)) → Agree (and_then x k) (and_then x l)
agree_after x k l g = agree_then x x k l (agree_self x) g

module _ (a b : ℕ) (s : List ℕ) (at : ℕ) where
  pub agree_number : Agree (number_at a s at) (number_at b s at)
  unfolding number_at
  agree_number = agree_after (index_at 10 s at) (at_most a) (at_most b) (λ n p. agree_tests (ltb a n) (ltb b n) 10 (agree_self (ok n p)))

  pub agree_number16 : Agree (number16_at a s at) (number16_at b s at)
  unfolding number16_at
  agree_number16 = agree_after (index16_at s at) (at_most a) (at_most b) (λ n p. agree_tests (ltb a n) (ltb b n) 10 (agree_self (ok n p)))

pub agree_texinfo : (a b : ℕ) (s : List ℕ) (at : ℕ) → Agree (texinfo_at a s at) (texinfo_at b s at)
unfolding texinfo_at texinfo_end_at
agree_texinfo a b s at =
    agree_after (vector_at s at) _ _ (λ sVector p.
    agree_after (f32_at s p) _ _ (λ sOffset q.
    agree_after (vector_at s q) _ _ (λ tVector t.
    agree_after (f32_at s t) _ _ (λ tOffset u.
    agree_then (number_at a s u) (number_at b s u) _ _ (agree_number a b s u) (λ texture v.
    agree_self _)))))

-- a texture info that is readable with two map records which place its section alike is the same with both
pub texinfo_same : (s : List ℕ) (m m' : BspData) (i : ℕ) (v w : BspTexInfo) → m.texinfo.offset ≡ m'.texinfo.offset
    → texinfo_of s m i ≡ answer v → texinfo_of s m' i ≡ answer w → v ≡ w
texinfo_same s m m' i v w =
    Readable.same TextureInfo (texinfo_at m.texture_count) (texinfo_at m'.texture_count) s m m' i v w
    (λ at. (agree_texinfo m.texture_count m'.texture_count s at).values)
