-- Faces by index: an index at or past the count, that a face's own record is the same with every map
-- record that places its section alike, and that what is worked out for a face is refused by 23 alone.
-- Assumes nothing.
use Prim.Native.Nat.{ℕ, zero, suc, ◌+◌, ◌≤◌}
use mathlib.Core.Path.{◌≡◌, refl}
use mathlib.Core.Bool.{Bool, true, false, cond}
use mathlib.Core.List.{List}
use native.Mathlib.Omega.{arith}
use lib.Dec.{ltb}
use Rattle.format.specs.Answer.{Answer, answer, refused, then_answer, on_refusal}
use Rattle.format.specs.Field.{index_at}
use Rattle.format.specs.Section.{record_count}
use Rattle.format.specs.declared.section.BspData.{BspData}
use Rattle.format.specs.declared.section.BspFileSectionId.TheVariants.{Planes, TextureInfo, Faces, EdgeList}
use Rattle.records.specs.Edge.{edge_of, edgelist_of}
use Rattle.records.specs.Plane.{vertex_of}
use Rattle.records.specs.Texinfo.{texinfo_of}
use Rattle.records.specs.declared.texinfo.BspTexInfo.{BspTexInfo}
use Rattle.records.specs.Number.{number16_at, count_at}
use Rattle.records.proofs.Readable as Readable
use Rattle.records.proofs.Agree.{Agree, agree_self, agree_then, agree_after, agree_number16}
use Rattle.faces.specs.Face.{side_at, face_at, face_end_at, file_face_of}
use Rattle.faces.specs.Extents.{vertex_on, corner_of, widened, unbounded, span_over, span_of, surface_in, surface_of, face_of}
use Rattle.faces.specs.declared.extents.Span.{Span}
use Rattle.faces.specs.declared.face.BspFace.{BspFace}

-- an index at or past the count is 20
pub face_past : (s : List ℕ) (m : BspData) (i : ℕ) → record_count Faces m.faces ≤ i → face_of s m i ≡ refused 20
unfolding face_of
face_past s m i h = rw (Readable.past Faces (face_at (record_count Planes m.planes) (record_count TextureInfo m.texinfo)) s m i h)

agree_face : (a b c d : ℕ) (s : List ℕ) (at : ℕ) → Agree (face_at a b s at) (face_at c d s at)
unfolding face_at face_end_at
agree_face a b c d s at =
    agree_then (number16_at a s at) (number16_at c s at) _ _ (agree_number16 a c s at) (λ plane p.
    agree_after (side_at s p) _ _ (λ side q.
    agree_after (index_at 10 s q) _ _ (λ edge t.
    agree_after (count_at 3 s t) _ _ (λ count u.
    agree_then (number16_at b s u) (number16_at d s u) _ _ (agree_number16 b d s u) (λ info v.
    agree_self _)))))

pub file_face_same : (s : List ℕ) (m m' : BspData) (i : ℕ) (v w : BspFace) → m.faces.offset ≡ m'.faces.offset
    → file_face_of s m i ≡ answer v → file_face_of s m' i ≡ answer w → v ≡ w
file_face_same s m m' i v w =
    Readable.same Faces (face_at (record_count Planes m.planes) (record_count TextureInfo m.texinfo))
    (face_at (record_count Planes m'.planes) (record_count TextureInfo m'.texinfo)) s m m' i v w
    (λ at. (agree_face (record_count Planes m.planes) (record_count TextureInfo m.texinfo) (record_count Planes m'.planes) (record_count TextureInfo m'.texinfo) s at).values)

-- ---- a surface is refused by 23 alone

abbrev Only23 : {A : Type 0} → Answer A → Type 0
Only23 a = (n : ℕ) → a ≡ refused n → n ≡ 23

only_answer : {A : Type 0} (v : A) → Only23 (answer v)
only_answer v n e = let z : ◌≡◌ {A = ℕ} 0 1 = cc in absurd (omega arith)

only_refused : {A : Type 0} → Only23 {A = A} (refused 23)
only_refused n e = let z : ◌≡◌ {A = ℕ} 23 n = cc in omega (arith, z)

only_on_refusal : {A B : Type 0} (a : Answer A) (k : A → Answer B) → ((v : A) → Only23 (k v)) → Only23 (on_refusal (refused 23) a k)
only_on_refusal (answer v) k h = h v
only_on_refusal (refused n) k h = only_refused

only_then : {A B : Type 0} (a : Answer A) (k : A → Answer B) → Only23 a → ((v : A) → Only23 (k v)) → Only23 (then_answer a k)
only_then (answer v) k f h = h v
only_then (refused n) k f h = λ j e. let z : ◌≡◌ {A = ℕ} n j = cc in let w : n ≡ 23 = f n refl in omega (arith, z, w)

only_when : {A : Type 0} (b : Bool) (a : Answer A) → Only23 a → Only23 (cond b (refused 23) a)
only_when true a h = only_refused
only_when false a h = h

module _ (s : List ℕ) (m : BspData) where
  only_corner : (i : ℕ) → Only23 (corner_of s m i)
  unfolding corner_of
  only_corner i =
      only_on_refusal (edgelist_of s m i) _ (λ entry.
      only_on_refusal (edge_of s m entry.index) _ (λ edge.
      only_on_refusal (vertex_of s m (vertex_on entry.direction edge)) _ (λ v. only_answer v)))

  only_over : (info : BspTexInfo) (n i : ℕ) (w : Span) → Only23 (span_over s m info n i w)
  unfolding span_over
  only_over info zero i w = only_answer w
  only_over info (suc n) i w = only_then (corner_of s m i) _ (only_corner i) (λ v. only_over info n (i + 1) (widened info v w))

  only_span : (info : BspTexInfo) (first count : ℕ) → Only23 (span_of s m info first count)
  unfolding span_of
  only_span info first count =
      only_when (ltb (record_count EdgeList m.edgelist) (first + count)) _ (only_over info count first unbounded)

  pub surface_refuses : (f : BspFace) (n : ℕ) → surface_of s m f ≡ refused n → n ≡ 23
  unfolding surface_of
  surface_refuses f =
      only_on_refusal (texinfo_of s m f.texinfo_id) _ (λ info.
      only_then (span_of s m info f.edge_id f.edge_count) _ (only_span info f.edge_id f.edge_count) (λ w. only_answer (surface_in w info.special)))
