-- A texture section that loading took reads for the accessors too, and a texture info names one of its textures or their count.
-- Assumes nothing.
use Prim.Native.Nat.{ℕ, ◌≤◌}
use mathlib.Core.Path.{◌≡◌, refl, ap, subst}
use mathlib.Core.Bool.{Bool, true, false, cond}
use mathlib.Core.List.{List}
use native.Mathlib.Omega.{arith}
use borrow.Author.Tests.{ltb-false, le-leb}
use lib.Dec.{ltb}
use Rattle.format.specs.Field.{f32_at, index_at}
use Rattle.format.specs.Step.{Step, ok, refused, and_then}
use Rattle.format.specs.declared.section.BspFileSection.{BspFileSection}
use Rattle.records.specs.Number.{number_at}
use Rattle.records.specs.Texinfo.{flag_at, texinfo_at, texinfo_end_at}
use Rattle.records.specs.Triple.{vector_at}
use Rattle.records.specs.declared.texinfo.BspTexInfo.{BspTexInfo}
use Rattle.sections.specs.Position.{check_end_position}
use Rattle.sections.proofs.Bounded.{not_ok}
use Rattle.textures.specs.Group.{sequenced}
use Rattle.textures.specs.Section as Section
use Rattle.texture_list.specs.List.{textures_at, names_of}
use Rattle.textures.specs.Access.{sound_at}
use Rattle.load.proofs.Passed.{first}

same_value : (n p w q : ℕ) → ◌≡◌ {A = Step ℕ} (ok n p) (ok w q) → n ≡ w
same_value n p w q e = cc

same_info : (v w : BspTexInfo) (p q : ℕ) → ok v p ≡ ok w q → v.tex_id ≡ w.tex_id
same_info v w p q e = let f : v ≡ w = cc in ap (λ (x : BspTexInfo). x.tex_id) f

-- a number that was read is at most the most
at_most : (most : ℕ) (s : List ℕ) (at n p : ℕ) → number_at most s at ≡ ok n p → n ≤ most
unfolding number_at
at_most most s at n p e =
    let a = first (index_at 10 s at) _ n p e in
    by a.0 a.1.0 (ltb most a.0) refl a.1.1.1
  where
    by : (k q : ℕ) (t : Bool) → ltb most k ≡ t → cond t (refused 10) (ok k q) ≡ ok n p → n ≤ most
    by k q true h e = not_ok e
    by k q false h e = omega (arith, same_value k q n p e, ltb-false most k h)

pub section_sound : (s : List ℕ) (z : BspFileSection) (w q : ℕ) → Section.textures s z ≡ ok w q → sound_at s z.offset w ≡ true
unfolding Section.textures sound_at
section_sound s z w q e =
    let a = first (number_at 2097152 s z.offset) _ w q e in
    let b = first (and_then (textures_at s z.offset a.0) (λ u p. check_end_position z p)) _ w q a.1.1.1 in
    let t = first (textures_at s z.offset a.0) (λ u p. check_end_position z p) b.0 b.1.0 b.1.1.0 in
    let g = first (sequenced (names_of s z.offset) a.0) _ w q b.1.1.1 in
    let f : a.0 ≡ w = same_value a.0 _ w q g.1.1.1 in
    let d : sound_at s z.offset a.0 ≡ true = rw (le-leb a.0 2097152 (at_most 2097152 s z.offset a.0 a.1.0 a.1.1.0), t.1.1.0, g.1.1.0) refl in
    subst (λ (n : ℕ). sound_at s z.offset n ≡ true) f d

pub texture_at_most : (n : ℕ) (s : List ℕ) (at : ℕ) (v : BspTexInfo) (p : ℕ) → texinfo_at n s at ≡ ok v p → v.tex_id ≤ n
unfolding texinfo_at texinfo_end_at
texture_at_most n s at v p e =
    let a = first (vector_at s at) _ v p e in
    let b = first (f32_at s a.1.0) _ v p a.1.1.1 in
    let c = first (vector_at s b.1.0) _ v p b.1.1.1 in
    let d = first (f32_at s c.1.0) _ v p c.1.1.1 in
    let t = first (number_at n s d.1.0) _ v p d.1.1.1 in
    let f = first (flag_at s t.1.0) _ v p t.1.1.1 in
    omega (arith, at_most n s d.1.0 t.0 t.1.0 t.1.1.0, same_info _ v _ p f.1.1.1)
