-- Words in lent lists: how a map record is taken from words, and what a call leaves in a list.
use Rattle.std.specs.Prelude.{ℕ, ◌+◌, Bool, true, false, cond, List, [], ◌∷◌, ◌++◌, ltb, length, drop, get_or, ℤ, Float}
use Rattle.std.specs.Float.{binary32}
use Rattle.std.specs.Float.Ieee.{to_bits}
use Rattle.std.specs.Int.{w64}
use Rattle.std.proofs.Common.{of_z}
use Rattle.math.specs.Plane.{normal_of}
use Rattle.math.specs.declared.vector.Vector3.{Vector3}
use Rattle.math.specs.declared.vector.Axis.TheVariants.{X, Y, Z}
use Rattle.math.specs.declared.plane.Alignment.{Alignment}
use Rattle.math.specs.declared.plane.Alignment.TheVariants.{Axis, Normal}
use Rattle.math.specs.declared.plane.Hyperplane.{Hyperplane}
use Rattle.format.specs.Answer.{Answer, answer, refused, mapped}
use Rattle.format.specs.Listed.{Listed}
use Rattle.format.specs.declared.section.BspData.{BspData}
use Rattle.format.specs.declared.section.BspFileSection.{BspFileSection}

-- the items, and then what lay past them
abbrev pub put_items : {A : Type 0} → List A → List A → List A
put_items xs out = xs ++ drop (length xs) out

-- the words, and then what lay past them
abbrev pub put : List ℕ → List ℕ → List ℕ
put ws out = put_items ws out

-- what a call says, and what is in the lent list afterwards: 0 and the answer's words, or a refusal's number and the list as it was
pub record Written : Type 0 where
  pub status : ℕ
  pub list : List ℕ

abbrev pub written : ℕ → List ℕ → Written
written n out = record { status = n; list = out }

-- the words of an answer, or 22 where the list is too short
abbrev pub give : List ℕ → List ℕ → Written
give ws out = cond (ltb (length out) (length ws)) (written 22 out) (written 0 (put ws out))

-- what a call leaves of an answer: 0 and its words at the front of the list, or the refusal's number and the list as it was
abbrev pub given : Answer (List ℕ) → List ℕ → Written
given (answer ws) out = written 0 (put ws out)
given (refused n) out = written n out

-- the same where the list may be too short for the words: then 22, and the list as it was
abbrev pub told : Answer (List ℕ) → List ℕ → Written
told (answer ws) out = give ws out
told (refused n) out = written n out

-- 22 where a list has fewer than n words (or floats), before anything else is looked at
abbrev pub at_least : {A : Type 0} → ℕ → List A → List ℕ → Written → Written
at_least n ws out rest = cond (ltb (length ws) n) (written 22 out) rest

-- a number is its own word
abbrev pub number_words : ℕ → List ℕ
number_words n = n ∷ []

-- ---- calls with two lists

-- what a call says, what is in the list that it fills or marks, and in the list `out`
pub record Left : Type 0 where
  pub status : ℕ
  pub list : List ℕ
  pub out : List ℕ

abbrev pub left : ℕ → List ℕ → List ℕ → Left
left n list out = record { status = n; list = list; out = out }

-- 22 where a list has fewer than n words (or floats), with both lists as they were
abbrev pub enough : {A : Type 0} → ℕ → List A → List ℕ → List ℕ → Left → Left
enough n ws list out rest = cond (ltb (length ws) n) (left 22 list out) rest

-- what is left in `out`, and in the other list
abbrev pub beside : List ℕ → Written → Left
beside list w = left w.status list w.list

-- the entries in the list that a call fills, and their count in `out`
abbrev pub listed_in : Listed → List ℕ → Left
listed_in l out = beside l.list (given (mapped number_words l.answered) out)

-- ---- the words of flags, floats, signed numbers and planes

abbrev pub flag_word : Bool → ℕ
flag_word false = 0
flag_word true = 1

-- a float is its 32 bits, every NaN 0x7fc00000
abbrev pub float_word : Float → ℕ
float_word x = to_bits binary32 x

-- a signed number is its two's complement in 64 bits
abbrev pub signed_word : ℤ → ℕ
signed_word x = of_z w64 x

-- 0, 1, 2 for an axis, 3 for a normal
abbrev pub kind_of : Alignment → ℕ
kind_of (Axis X) = 0
kind_of (Axis Y) = 1
kind_of (Axis Z) = 2
kind_of (Normal n) = 3

abbrev pub vector_words : Vector3 → List ℕ
vector_words v = float_word v.x ∷ float_word v.y ∷ float_word v.z ∷ []

-- kind, normal, distance
abbrev pub plane_words : Hyperplane → List ℕ
plane_words h = (kind_of h.alignment ∷ vector_words (normal_of h)) ++ (float_word h.dist ∷ [])

-- ---- the map record

abbrev pub section_in : List ℕ → ℕ → BspFileSection
section_in ws at = record { offset = get_or ws at 0; size = get_or ws (at + 1) 0 }

-- how many words a map record has
abbrev pub map_length : ℕ
map_length = 31

-- offset and size of each section in file order, then the texture count
abbrev pub map_of : List ℕ → BspData
map_of ws =
    record {
      entities = section_in ws 0;
      planes = section_in ws 2;
      textures = section_in ws 4;
      vertices = section_in ws 6;
      visibility = section_in ws 8;
      render_nodes = section_in ws 10;
      texinfo = section_in ws 12;
      faces = section_in ws 14;
      lightmaps = section_in ws 16;
      collision_nodes = section_in ws 18;
      leaves = section_in ws 20;
      facelist = section_in ws 22;
      edges = section_in ws 24;
      edgelist = section_in ws 26;
      models = section_in ws 28;
      texture_count = get_or ws 30 0;
    }

abbrev pub section_words : BspFileSection → List ℕ
section_words z = z.offset ∷ z.size ∷ []

-- the words of a map record
abbrev pub map_words : BspData → List ℕ
map_words m =
    section_words m.entities
    ++ section_words m.planes
    ++ section_words m.textures
    ++ section_words m.vertices
    ++ section_words m.visibility
    ++ section_words m.render_nodes
    ++ section_words m.texinfo
    ++ section_words m.faces
    ++ section_words m.lightmaps
    ++ section_words m.collision_nodes
    ++ section_words m.leaves
    ++ section_words m.facelist
    ++ section_words m.edges
    ++ section_words m.edgelist
    ++ section_words m.models
    ++ (m.texture_count ∷ [])
