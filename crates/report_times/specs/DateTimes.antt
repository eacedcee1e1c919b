-- Dates with a time and an offset, as RFC 3339 (section 5.6) and ISO 8601 spell them.
use Rattle.std.specs.Prelude.{◌≡◌, ℕ, ◌+◌, ◌==◌, List, [], ◌∷◌, ◌++◌, length, take, drop, get_or, codes, if◌then◌else◌}
use Rattle.time_text.specs.Time.{IsTimeOf}
use Rattle.report_times.specs.declared.parts.OctetKind.TheVariants.{Digit}
use Rattle.report_times.specs.Parts.{front_run, behind_run}

-- the one where a text begins with a point, else the other
abbrev pub point : (text with without : List ℕ) → List ℕ
point text with without = if get_or text 0 0 == 46 then with else without

-- a date and a time of 19 octets, with T between them where a space stands
abbrev pub front_of : List ℕ → List ℕ
front_of text = take 10 text ++ ((if get_or text 10 0 == 32 then codes "T" else take 1 (drop 10 text)) ++ take 8 (drop 11 text))

-- the point and the first three of the decimals behind a time
abbrev pub decimals_of : List ℕ → List ℕ
decimals_of tail = point tail (46 ∷ take 3 (front_run Digit (drop 1 tail))) []

-- the offset behind a time
abbrev pub offset_in : List ℕ → List ℕ
offset_in tail = point tail (behind_run Digit (drop 1 tail)) tail

-- an offset of hours, or of hours and minutes without a colon, with its colon and minutes
abbrev pub whole_offset : List ℕ → List ℕ
whole_offset offset =
    if length offset == 3 then offset ++ codes ":00"
    else if length offset == 5 then take 3 offset ++ 58 ∷ drop 3 offset
    else offset

-- the text in the form of RFC 3339 with three decimals at most
abbrev pub normal_form : List ℕ → List ℕ
normal_form text = front_of text ++ (decimals_of (drop 19 text) ++ whole_offset (offset_in (drop 19 text)))

-- The text spells the moment: T may be a space, decimals past the third don't count, and an offset may leave its colon
-- or its minutes out.
abbrev pub IsDateTime : List ℕ → ℕ → Type 0
IsDateTime text m = IsTimeOf (normal_form text) m

-- it spells the moment, were it one of UTC
abbrev pub IsLocalTime : List ℕ → ℕ → Type 0
IsLocalTime text m = IsTimeOf (normal_form text ++ codes "Z") m
