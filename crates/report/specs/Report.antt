-- What the report program prints of what it reads. The texts and the seven lines are document 01's, under 'Report program'.
use Rattle.std.specs.Prelude.{ℕ, cond, List, ◌++◌, ltb, length}
use Rattle.format.specs.Answer.{Answer, answer, refused}
use Rattle.format.specs.Section.{record_count, section_of}
use Rattle.format.specs.declared.section.BspData.{BspData}
use Rattle.format.specs.declared.section.BspFileSectionId.{BspFileSectionId}
use Rattle.format.specs.declared.section.BspFileSectionId.TheVariants.{Entities, Planes, RenderNodes, Faces, CollisionNodes, Leaves, Models}
use Rattle.load.specs.Load.{load_of}
use Rattle.report.specs.Text.{ascii, line}

-- a name and how many records the section has; the entities are counted in bytes
unfoldable pub count_line : List ℕ → BspFileSectionId → BspData → List ℕ
count_line name id m = line name (record_count id (section_of id m))

-- the lines of a map that loads
unfoldable pub count_lines : BspData → List ℕ
count_lines m =
    count_line (ascii "planes ") Planes m
    ++ count_line (ascii "nodes ") RenderNodes m
    ++ count_line (ascii "clipnodes ") CollisionNodes m
    ++ count_line (ascii "leaves ") Leaves m
    ++ count_line (ascii "faces ") Faces m
    ++ count_line (ascii "models ") Models m
    ++ count_line (ascii "entities ") Entities m

-- what is said of loading: the lines of the map record, or the refusal's number
unfoldable pub told : Answer BspData → List ℕ
told (answer m) = count_lines m
told (refused n) = line (ascii "refused ") n

-- the whole text; what is longer than 65,536 bytes is not loaded
unfoldable pub report_text : List ℕ → List ℕ
report_text input = cond (ltb 65536 (length input)) (ascii "too long\n") (told (load_of input))
