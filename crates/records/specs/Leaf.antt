-- Leaves: contents code, visibility offset, box, faces, and four sound bytes, of which the file may lack some.
use Rattle.std.specs.Prelude.{Option, ℕ, ◌+◌, ◌-◌, min, List, ℤ, length, get_or}
use Rattle.std.specs.Int.{w32}
use Rattle.format.specs.Step.{Step, ok, and_then}
use Rattle.format.specs.Answer.{Answer}
use Rattle.format.specs.Field.{i32_at, u16_at}
use Rattle.format.specs.Code.{negated_contents}
use Rattle.format.specs.declared.contents.BspLeafContents.{BspLeafContents}
use Rattle.format.specs.declared.section.BspData.{BspData}
use Rattle.format.specs.declared.section.BspFileSectionId.TheVariants.{Leaves}
use Rattle.records.specs.Access.{record_of}
use Rattle.records.specs.Node.{with_contents}
use Rattle.records.specs.Number.{offset_at}
use Rattle.records.specs.Triple.{point_at}
use Rattle.records.specs.declared.leaf.Sounds.{Sounds}
use Rattle.records.specs.declared.leaf.BspLeaf.{BspLeaf}

-- the contents of the code -x of an i32 x
abbrev pub contents : ℤ → ℕ → Step BspLeafContents
contents x p = with_contents (negated_contents w32 x) (λ c. ok c p)

unfoldable pub contents_at : List ℕ → ℕ → Step BspLeafContents
contents_at s at = and_then (i32_at s at) (λ x p. contents x p)

-- a `read` takes what there is, and leaves the rest of its four zeros as they are
abbrev pub sounds_at : List ℕ → ℕ → Sounds
sounds_at s at = record { water = get_or s at 0; sky = get_or s (at + 1) 0; slime = get_or s (at + 2) 0; lava = get_or s (at + 3) 0 }

-- the position after at most n bytes
abbrev pub up_to : ℕ → List ℕ → ℕ → ℕ
up_to n s at = at + min n (length s - at)

-- the fields that are not tested
unfoldable pub leaf_end_at : BspLeafContents → Option ℕ → List ℕ → ℕ → Step BspLeaf
leaf_end_at contents offset s at =
    and_then (point_at s at) (λ low p.
    and_then (point_at s p) (λ high q.
    and_then (u16_at s q) (λ first t.
    and_then (u16_at s t) (λ count u.
    ok (record {
      contents = contents;
      vis_offset = offset;
      min = low;
      max = high;
      facelist_id = first;
      facelist_count = count;
      sounds = sounds_at s u;
    }) (up_to 4 s u)))))

unfoldable pub leaf_at : List ℕ → ℕ → Step BspLeaf
leaf_at s at =
    and_then (contents_at s at) (λ contents p.
    and_then (offset_at s p) (λ offset q.
    leaf_end_at contents offset s q))

-- by index
abbrev pub leaf_of : List ℕ → BspData → ℕ → Answer BspLeaf
leaf_of s m i = record_of Leaves leaf_at s m i
