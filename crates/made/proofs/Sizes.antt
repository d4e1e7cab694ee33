-- How long the parts of a made-up map's file are.
-- Assumes nothing.
use Prim.Native.Nat.{ℕ, ◌+◌, ◌*◌}
use mathlib.Core.Path.{◌≡◌, refl, ◌∙◌}
use mathlib.Core.List.{List, [], ◌∷◌}
use native.Mathlib.Omega.{arith}
use lib.ListN.{length, length-append}
use Rattle.written.specs.Bytes.{joined}
use Rattle.written.proofs.Fields.{row_length}
use Rattle.made.specs.File.{made_map, header, plane, render_node, clip_node, leaf, leaves, model, plane_part, render_part, clip_part, parts_of, file_of}

pub plane_size : (seed i : ℕ) → length (plane_part seed i) ≡ 20
unfolding plane
plane_size seed i = refl

pub render_size : (seed n i : ℕ) → length (render_part seed n i) ≡ 24
unfolding render_node
render_size seed n i = refl

pub clip_size : (seed n i : ℕ) → length (clip_part seed n i) ≡ 8
unfolding clip_node
clip_size seed n i = refl

pub model_size : length model ≡ 64
unfolding model
model_size = refl

pub header_size : (n : ℕ) → length (header (made_map n)) ≡ 124
unfolding header
header_size n = refl

pub leaves_size : length leaves ≡ 56
unfolding leaves leaf
leaves_size = refl

-- the lengths of parts, added up
abbrev pub lengths : List (List ℕ) → ℕ
lengths [] = 0
lengths (part ∷ parts) = length part + lengths parts

joined_length : (parts : List (List ℕ)) → length (joined parts) ≡ lengths parts
joined_length [] = refl
joined_length (part ∷ parts) = let a = joined_length parts in omega (arith, length-append part (joined parts))

-- the file's length
pub file_size : (seed n : ℕ) → length (file_of seed n) ≡ 249 + n * 52
unfolding file_of
file_size seed n =
    let a = header_size n in
    let b = row_length (plane_part seed) 20 n (λ i h. plane_size seed i) in
    let c = row_length (render_part seed n) 24 n (λ i h. render_size seed n i) in
    let d = row_length (clip_part seed n) 8 n (λ i h. clip_size seed n i) in
    let e = leaves_size in
    let f = model_size in
    joined_length (parts_of seed n) ∙ omega arith
