-- The header reads the directory of the Quake Specifications: where it is answered, the offset and the size of each section are those of its
-- entry, neither of them negative, and 124 bytes were read.
-- Assumes nothing.
use Prim.Native.Nat.{ℕ, ◌+◌, ◌*◌}
use mathlib.Core.Path.{◌≡◌, refl, sym, ap, ◌∙◌, subst}
use mathlib.Core.List.{List}
use mathlib.Core.Bool.{Bool, true, false, cond}
use native.Mathlib.Omega.{arith}
use borrow.Author.Tests.{leb-true}
use lib.Dec.{leb, ltb}
use lib.IntN.{ℤ, pos, negsuc}
use lib.ListN.{length}
use mir.Syntax.{w32}
use mir.Val.{to_z}
use Rattle.format.specs.Step.{Step, ok, refused, and_then}
use Rattle.format.specs.Field.{u32_at, i32_at, index_at, not_negative}
use Rattle.format.specs.Layout as Layout
use Rattle.format.specs.Layout.{int, little_endian}
use Rattle.format.specs.Section.{section_of}
use Rattle.format.specs.declared.section.BspFileSection.{BspFileSection}
use Rattle.format.specs.declared.section.BspData.{BspData}
use Rattle.format.specs.declared.section.BspFileSectionId.{BspFileSectionId}
use Rattle.format.specs.declared.section.BspFileSectionId.TheVariants.{Entities, Planes, Textures, Vertices, Visibility, RenderNodes, TextureInfo, Faces, Lightmaps, CollisionNodes, Leaves, FaceList, Edges, EdgeList, Models}
use Rattle.format.proofs.Layouts.{i32_at_lem}
use Rattle.sections.specs.Table.{Three, is_multiple, section_at, three_sections_at, table_end_at, table_at, is_version, header_at, table_of}
use Rattle.sections.proofs.Bounded.{not_ok, at_position}

abbrev value_or : {A : Type 0} → A → Step A → A
value_or d (ok v p) = v
value_or d (refused n) = d

at_value : {A : Type 0} {v w : A} {p q : ℕ} → ok v p ≡ ok w q → v ≡ w
at_value {v = v} e = ap (value_or v) e

-- a number that is not negative is its own absolute value
absolute : (n : ℕ) (z : ℤ) (q v p : ℕ) → not_negative n z q ≡ ok v p → (pos v ≡ z) × (p ≡ q)
absolute n (pos k) q v p e = by (ltb k 0) e
  where
    by : (b : Bool) → cond b (refused n) (ok k q) ≡ ok v p → (pos v ≡ pos k) × (p ≡ q)
    by true e = not_ok e
    by false e = (ap pos (sym (at_value e)), sym (at_position e))
absolute n (negsuc k) q v p e = not_ok e

-- a field of the header
index : (n : ℕ) (s : List ℕ) (at o q v p : ℕ) → q ≡ at + o → index_at n s q ≡ ok v p → (pos v ≡ to_z w32 (little_endian s (at + o) 4)) × (p ≡ at + (o + 4))
unfolding index_at i32_at u32_at
index n s at o q v p a e = by (leb (q + 4) (length s)) refl
  where
    by : (b : Bool) → leb (q + 4) (length s) ≡ b → (pos v ≡ to_z w32 (little_endian s (at + o) 4)) × (p ≡ at + (o + 4))
    by true h =
        let l = leb-true (q + 4) (length s) h in
        let r = i32_at_lem s at (o + 4) (omega arith) o q a (omega arith) in
        absolute n (to_z w32 (little_endian s (at + o) 4)) (at + (o + 4)) v p (sym (ap (λ x. and_then x (λ z t. not_negative n z t)) r) ∙ e)
    by false h = not_ok (simp h at e)

-- what an entry of the directory says of a section
abbrev pub Entry : List ℕ → ℕ → BspFileSection → Type 0
Entry s at z = (pos z.offset ≡ int Layout.entry 0 s at) × (pos z.size ≡ int Layout.entry 1 s at)

-- where two steps are answered, the first gave a value that the second went on from
record Parted {A B : Type 0} (x : Step A) (k : A → ℕ → Step B) (v : B) (p : ℕ) : Type 0 where
  pub value : A
  pub at : ℕ
  pub first : x ≡ ok value at
  pub then : k value at ≡ ok v p

parted : {A B : Type 0} (x : Step A) (k : A → ℕ → Step B) (v : B) (p : ℕ) → and_then x k ≡ ok v p → Parted x k v p
parted (ok w q) k v p e = record { value = w; at = q; first = refl; then = e }
parted (refused n) k v p e = not_ok e

section_entry : (id : BspFileSectionId) (s : List ℕ) (at : ℕ) (z : BspFileSection) (p : ℕ) → section_at id s at ≡ ok z p → Entry s at z × (p ≡ at + 8)
unfolding section_at
section_entry id s at z p e =
    let a = parted (index_at 3 s at) (λ offset p. and_then (index_at 4 s p) (λ size next. cond (is_multiple id size) (ok (record { offset = offset; size = size }) next) (refused 5))) z p e in
    let b = parted (index_at 4 s a.at) (λ size next. cond (is_multiple id size) (ok (record { offset = a.value; size = size }) next) (refused 5)) z p a.then in
    let i = index 3 s at 0 at a.value a.at (omega arith) a.first in
    let j = index 4 s at 4 a.at b.value b.at i.1 b.first in
    by (is_multiple id b.value) a.value b.value b.at i.0 j.0 j.1 b.then
  where
    by : (t : Bool) (o n q : ℕ) → pos o ≡ int Layout.entry 0 s at → pos n ≡ int Layout.entry 1 s at → q ≡ at + 8
        → cond t (ok (record { offset = o; size = n }) q) (refused 5) ≡ ok z p
        → Entry s at z × (p ≡ at + 8)
    by false o n q c d r e = not_ok e
    by true o n q c d r e = (subst (Entry s at) (at_value e) (c, d), sym (at_position e) ∙ r)

-- three entries in a row
record Entries (s : List ℕ) (at : ℕ) (t : Three) : Type 0 where
  pub a : Entry s at t.a
  pub b : Entry s (at + 8) t.b
  pub c : Entry s (at + 16) t.c

three_entries : (i j k : BspFileSectionId) (s : List ℕ) (at o q : ℕ) (t : Three) (p : ℕ) → q ≡ at + o → three_sections_at i j k s q ≡ ok t p → Entries s (at + o) t × (p ≡ at + (o + 24))
unfolding three_sections_at
three_entries i j k s at o q t p l e =
    let x = parted (section_at i s q) (λ a p. and_then (section_at j s p) (λ b q. and_then (section_at k s q) (λ c next. ok (record { a = a; b = b; c = c }) next))) t p e in
    let y = parted (section_at j s x.at) (λ b q. and_then (section_at k s q) (λ c next. ok (record { a = x.value; b = b; c = c }) next)) t p x.then in
    let z = parted (section_at k s y.at) (λ c next. ok (record { a = x.value; b = y.value; c = c }) next) t p y.then in
    let f = section_entry i s q x.value x.at x.first in
    let g = section_entry j s x.at y.value y.at y.first in
    let h = section_entry k s y.at z.value z.at z.first in
    let second : x.at ≡ at + o + 8 = omega (arith, f.1) in
    let third : y.at ≡ at + o + 16 = omega (arith, g.1, f.1) in
    let last : p ≡ at + (o + 24) = omega (arith, h.1, g.1, f.1, at_position z.then) in (
      subst (Entries s (at + o)) (at_value z.then) (record {
        a = subst (λ q. Entry s q x.value) l f.0;
        b = subst (λ q. Entry s q y.value) second g.0;
        c = subst (λ q. Entry s q z.value) third h.0;
      }),
      last,
    )

module _ (s : List ℕ) (at : ℕ) where
  place : (z : BspFileSection) {n k : ℕ} → n ≡ k → Entry s n z → Entry s k z
  place z e h = subst (λ q. Entry s q z) e h

  -- the section of each entry
  in_order : (t u v w x : Three) → Entries s (at + 0) t → Entries s (at + 24) u → Entries s (at + 48) v → Entries s (at + 72) w → Entries s (at + 96) x
      → (id : BspFileSectionId)
      → Entry s (at + 8 * Layout.entry_number id) (section_of id (table_of t u v w x))
  in_order t u v w x a b c d e Entities = place t.a (omega arith) a.a
  in_order t u v w x a b c d e Planes = place t.b (omega arith) a.b
  in_order t u v w x a b c d e Textures = place t.c (omega arith) a.c
  in_order t u v w x a b c d e Vertices = place u.a (omega arith) b.a
  in_order t u v w x a b c d e Visibility = place u.b (omega arith) b.b
  in_order t u v w x a b c d e RenderNodes = place u.c (omega arith) b.c
  in_order t u v w x a b c d e TextureInfo = place v.a (omega arith) c.a
  in_order t u v w x a b c d e Faces = place v.b (omega arith) c.b
  in_order t u v w x a b c d e Lightmaps = place v.c (omega arith) c.c
  in_order t u v w x a b c d e CollisionNodes = place w.a (omega arith) d.a
  in_order t u v w x a b c d e Leaves = place w.b (omega arith) d.b
  in_order t u v w x a b c d e FaceList = place w.c (omega arith) d.c
  in_order t u v w x a b c d e Edges = place x.a (omega arith) e.a
  in_order t u v w x a b c d e EdgeList = place x.b (omega arith) e.b
  in_order t u v w x a b c d e Models = place x.c (omega arith) e.c

  table_entries : (m : BspData) (p : ℕ) → table_at s at ≡ ok m p
      → ((id : BspFileSectionId) → Entry s (at + 8 * Layout.entry_number id) (section_of id m)) × (p ≡ at + 120)
  unfolding table_at table_end_at
  table_entries m p e =
      let v = parted (three_sections_at Entities Planes Textures s at) (λ a p. and_then (three_sections_at Vertices Visibility RenderNodes s p) (λ b q. and_then (three_sections_at TextureInfo Faces Lightmaps s q) (λ c t. table_end_at a b c s t))) m p e in
      let w = parted (three_sections_at Vertices Visibility RenderNodes s v.at) (λ b q. and_then (three_sections_at TextureInfo Faces Lightmaps s q) (λ c t. table_end_at v.value b c s t)) m p v.then in
      let x = parted (three_sections_at TextureInfo Faces Lightmaps s w.at) (λ c t. table_end_at v.value w.value c s t) m p w.then in
      let y = parted (three_sections_at CollisionNodes Leaves FaceList s x.at) (λ d p. and_then (three_sections_at Edges EdgeList Models s p) (λ e next. ok (table_of v.value w.value x.value d e) next)) m p x.then in
      let z = parted (three_sections_at Edges EdgeList Models s y.at) (λ e next. ok (table_of v.value w.value x.value y.value e) next) m p y.then in
      let a = three_entries Entities Planes Textures s at 0 at v.value v.at (omega arith) v.first in
      let b = three_entries Vertices Visibility RenderNodes s at 24 v.at w.value w.at a.1 w.first in
      let c = three_entries TextureInfo Faces Lightmaps s at 48 w.at x.value x.at b.1 x.first in
      let d = three_entries CollisionNodes Leaves FaceList s at 72 x.at y.value y.at c.1 y.first in
      let f = three_entries Edges EdgeList Models s at 96 y.at z.value z.at d.1 z.first in
      let all = in_order v.value w.value x.value y.value z.value a.0 b.0 c.0 d.0 f.0 in
      (subst (λ m. (id : BspFileSectionId) → Entry s (at + 8 * Layout.entry_number id) (section_of id m)) (at_value z.then) all, sym (at_position z.then) ∙ f.1)

-- the version's end
version_end : (s : List ℕ) (z : ℤ) (q : ℕ) → i32_at s 0 ≡ ok z q → q ≡ 4
unfolding i32_at u32_at
version_end s z q h = by (leb 4 (length s)) _ h
  where
    by : (b : Bool) (n : ℕ) → and_then (cond b (ok n 4) (refused 1)) (λ n p. ok (to_z w32 n) p) ≡ ok z q → q ≡ 4
    by true n e = sym (at_position e)
    by false n e = not_ok e

-- Where the header is answered, each section is what its entry says, and the directory's end was reached.
pub directory : (s : List ℕ) (m : BspData) (p : ℕ) → header_at s ≡ ok m p
    → ((id : BspFileSectionId) → Entry s (4 + 8 * Layout.entry_number id) (section_of id m)) × (p ≡ 124)
unfolding header_at
directory s m p e =
    let a = parted (i32_at s 0) (λ version p. cond (is_version version) (table_at s p) (refused 2)) m p e in
    by a.at (is_version a.value) a.then (version_end s a.value a.at a.first)
  where
    by : (q : ℕ) (b : Bool) → cond b (table_at s q) (refused 2) ≡ ok m p → q ≡ 4
        → ((id : BspFileSectionId) → Entry s (4 + 8 * Layout.entry_number id) (section_of id m)) × (p ≡ 124)
    by q true e l = table_entries s 4 m p (subst (λ q. table_at s q ≡ ok m p) l e)
    by q false e l = not_ok e
