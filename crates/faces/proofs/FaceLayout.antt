-- The reader of a face whose bytes lie in the file reads exactly the fields of its layout. The numbers of plane and texture info, the side and
-- the edge count, which the specifications have unsigned, the Rust reads as signed; from half of the range on it refuses them (10).
-- Assumes nothing.
use Prim.Native.Nat.{ℕ, ◌+◌, ◌^◌, ◌≤◌}
use mathlib.Core.Path.{◌≡◌, refl, sym, ◌∙◌}
use mathlib.Core.List.{List}
use native.Mathlib.Nat.{add-zero}
use borrow.Author.Tests.{le-leb}
use lib.Dec.{lit≤}
use lib.IntN.{pos}
use lib.ListN.{length}
use mir.Syntax.{w16}
use mir.Val.{to_z}
use Rattle.format.specs.Step.{ok, refused, and_then}
use Rattle.format.specs.Field.{index_at, not_negative}
use Rattle.format.specs.Layout as Layout
use Rattle.format.specs.Layout.{bits, int}
use Rattle.format.proofs.Layouts.{u8_at_lem, i16_at_lem, i32_at_lem, either, both, negative_from}
use Rattle.records.specs.Number.{index16_at, number16_at, count_at, at_most, at_least, offset, offset_at}
use Rattle.faces.specs.declared.face.BspFaceSide.{BspFaceSide}
use Rattle.faces.specs.Face.{side_of, side_at, styles_at, face_at, face_end_at, face_light_at}

module _ (s : List ℕ) (at : ℕ) (h : at + (Layout.face).size ≤ length s) where
  -- plane_id, side and ledge_id, and then the rest
  pub face_layout : (planes infos : ℕ)
      → face_at planes infos s at
      ≡ and_then (not_negative 10 (to_z w16 (bits Layout.face 0 s at)) (at + 2)) (λ a p.
      and_then (at_most planes a (at + 2)) (λ plane p.
      and_then (not_negative 10 (to_z w16 (bits Layout.face 1 s at)) (at + 4)) (λ b p.
      and_then (side_of b (at + 4)) (λ side p.
      and_then (not_negative 10 (int Layout.face 2 s at) (at + 8)) (λ edge p.
      face_end_at infos plane side edge s (at + 8))))))
  unfolding face_at side_at number16_at index16_at index_at
  face_layout planes infos = simp (either, i16_at_lem s at 20 h 0 at (sym (add-zero at)) (lit≤ tt), i16_at_lem s at 20 h 2 (at + 2) refl (lit≤ tt), i32_at_lem s at 20 h 4 (at + 4) refl (lit≤ tt))

  -- ledge_num and texinfo_id, and then the rest
  pub face_end_layout : (infos plane : ℕ) (side : BspFaceSide) (edge : ℕ)
      → face_end_at infos plane side edge s (at + 8)
      ≡ and_then (not_negative 10 (to_z w16 (bits Layout.face 3 s at)) (at + 10)) (λ a p.
      and_then (at_least 3 a (at + 10)) (λ count p.
      and_then (not_negative 10 (to_z w16 (bits Layout.face 4 s at)) (at + 12)) (λ b p.
      and_then (at_most infos b (at + 12)) (λ info p.
      face_light_at plane side edge count info s (at + 12)))))
  unfolding face_end_at number16_at count_at index16_at
  face_end_layout infos plane side edge = simp (either, i16_at_lem s at 20 h 8 (at + 8) refl (lit≤ tt), i16_at_lem s at 20 h 10 (at + 10) refl (lit≤ tt))

  -- the light styles and the lightmap
  pub face_light_layout : (plane : ℕ) (side : BspFaceSide) (edge count info : ℕ)
      → face_light_at plane side edge count info s (at + 12)
      ≡ and_then (offset (int Layout.face 9 s at) (at + 20)) (λ lightmap p.
      ok (record {
        plane_id = plane;
        side = side;
        edge_id = edge;
        edge_count = count;
        texinfo_id = info;
        light_styles = record { style_0 = bits Layout.face 5 s at; style_1 = bits Layout.face 6 s at; style_2 = bits Layout.face 7 s at; style_3 = bits Layout.face 8 s at };
        lightmap_id = lightmap;
        texture_mins = record { s = pos 0; t = pos 0 };
        extents = record { s = pos 0; t = pos 0 };
      }) (at + (Layout.face).size))
  unfolding face_light_at styles_at offset_at
  face_light_layout plane side edge count info = simp (either, u8_at_lem s at 20 h 12 (at + 12) refl (lit≤ tt), u8_at_lem s at 20 h 13 (at + 13) refl (lit≤ tt), u8_at_lem s at 20 h 14 (at + 14) refl (lit≤ tt), u8_at_lem s at 20 h 15 (at + 15) refl (lit≤ tt), i32_at_lem s at 20 h 16 (at + 16) refl (lit≤ tt))

  -- what follows where the Rust reads an unsigned field as signed: from half of the range on it refuses (10)
  pub plane_sign : (planes infos : ℕ) → 2 ^ 15 ≤ bits Layout.face 0 s at → face_at planes infos s at ≡ refused 10
  plane_sign planes infos g = face_layout planes infos ∙ simp (negative_from w16 (bits Layout.face 0 s at), le-leb (2 ^ 15) (bits Layout.face 0 s at) g)

  pub edge_count_sign : (infos plane : ℕ) (side : BspFaceSide) (edge : ℕ) → 2 ^ 15 ≤ bits Layout.face 3 s at → face_end_at infos plane side edge s (at + 8) ≡ refused 10
  edge_count_sign infos plane side edge g =
      face_end_layout infos plane side edge ∙ simp (negative_from w16 (bits Layout.face 3 s at), le-leb (2 ^ 15) (bits Layout.face 3 s at) g)

  pub texinfo_sign : (infos plane : ℕ) (side : BspFaceSide) (edge : ℕ) → 2 ^ 15 ≤ bits Layout.face 4 s at → face_end_at infos plane side edge s (at + 8) ≡ refused 10
  texinfo_sign infos plane side edge g =
      face_end_layout infos plane side edge
      ∙ simp (either, negative_from w16 (bits Layout.face 4 s at), le-leb (2 ^ 15) (bits Layout.face 4 s at) g, both)
