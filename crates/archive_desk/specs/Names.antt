-- The names of files in an answer.
use Rattle.std.specs.Prelude.{ℕ, Bool, ◌==◌, ◌&&◌, List, [], ◌∷◌, ◌++◌, Option, Some, None, codes, slice_get, if◌then◌else◌}
use Rattle.std.specs.Path.{path_buf_bytes}
use Rattle.std.specs.declared.path.buf.PathBuf.{PathBuf}
use Rattle.journal_archive.specs.declared.pair_lookup.VolumePair.{VolumePair}
use Rattle.volume_spans.specs.declared.span.SpanPair.{SpanPair}
use Rattle.volume_spans.specs.Spelling.{pair_text}

abbrev pub name_by : {A : Type 0} → Option (PathBuf A) → List ℕ
name_by (Some name) = path_buf_bytes name
name_by None = []

-- the name of a file, by its count
abbrev pub name_at : {A : Type 0} → List (PathBuf A) → ℕ → List ℕ
name_at names file = name_by (slice_get names file)

-- the file of the primary's volume, and that of the secondary's
abbrev pub journals_line : {A : Type 0} → List (PathBuf A) → VolumePair → List ℕ
journals_line names pair =
    codes "journals " ++ (name_at names pair.primary.file ++ (32 ∷ (name_at names pair.secondary.file ++ 10 ∷ [])))

-- the spans are one volume of each side
abbrev pub is_single : SpanPair → Bool
is_single spans =
    (spans.primary.first == spans.primary.last) && (spans.secondary.first == spans.secondary.last)

-- the volumes of both sides
abbrev pub volumes_line : SpanPair → List ℕ
volumes_line spans = codes "volumes " ++ (pair_text spans ++ 10 ∷ [])

-- nothing where they are one of each side
abbrev pub volumes_note : SpanPair → List ℕ
volumes_note spans = if is_single spans then [] else volumes_line spans
