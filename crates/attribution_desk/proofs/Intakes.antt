-- What the intakes have taken.
use Rattle.std.proofs.Common.{◌≡◌, ◌<◌, ◌^◌, arith, ℕ, Some, None, List, [], ◌++◌, length, take, drop, Result, Ok, sym}
use Rattle.std.proofs.Common.{ap, subst, ◌∙◌, append_assoc}
use Rattle.std.specs.declared.vec.Vec.{Vec}
use Rattle.std.specs.declared.alloc.Global.{Global}
use Rattle.std.proofs.lemmas.List.{take-append-drop, take-append-le, drop-append-le}
use Rattle.std.proofs.Math.Seq.{take-length, drop-length, take-append_seam, drop-append_seam}
use Rattle.binding_rules.specs.declared.role.Role.{Role}
use Rattle.binding_rules.specs.declared.role.Role.TheVariants.{Primary, Secondary}
use Rattle.journal_lines.specs.declared.fault.JournalFault.{JournalFault}
use Rattle.journal_lines.specs.declared.line.Journal.{Journal}
use Rattle.journal_text.specs.Faults.{journal_of_side}
use Rattle.journal_text.specs.Progress.{HasTaken as HasParsed}
use Rattle.journal_text.specs.Closed.{IsClosed}
use Rattle.journal_text.specs.Laws.{SideGivesWhatItSpells, WrittenIsClosed}
use Rattle.attribution_desk.specs.declared.intake.Intake.{Intake}
use Rattle.attribution_desk.specs.declared.pair_intake.PairIntake.{PairIntake}
use Rattle.attribution_desk.specs.declared.journal_intake.JournalIntake.{JournalIntake}
use Rattle.attribution_desk.specs.Input.{text_length}
use Rattle.attribution_desk.specs.Input.{first_text, text_behind}
use Rattle.attribution_desk.specs.Intake.{IsWholeText, TextHasEnded, TextGoesOn, HasTakenFirst, IntakeHasTaken, HasTakenPair}
use Rattle.attribution_desk.proofs.Lines.{text_within}
use Rattle.attribution_desk.proofs.EndLines.{all_of}

-- ---- a text that goes on is all of the input

all_first : (input line : List ℕ) → TextGoesOn input line → first_text input ≡ input
all_first input line h = ap (λ n. take n input) (all_of input line h) ∙ take-length input

none_behind : (input line : List ℕ) → TextGoesOn input line → text_behind input ≡ []
none_behind input line h = ap (λ n. drop n input) (all_of input line h) ∙ drop-length input

-- ---- a text that has ended stays

module _ (input chunk : List ℕ) (h : TextHasEnded input) where
  first_stays : first_text (input ++ chunk) ≡ first_text input
  first_stays = ap (λ n. take n (input ++ chunk)) (h chunk)
      ∙ take-append-le (text_length input) input chunk (text_within input)

  behind_grows : text_behind (input ++ chunk) ≡ text_behind input ++ chunk
  behind_grows = ap (λ n. drop n (input ++ chunk)) (h chunk)
      ∙ drop-append-le (text_length input) input chunk (text_within input)

  still_ended : TextHasEnded (input ++ chunk)
  still_ended more = ap text_length (append_assoc input chunk more) ∙ (h (chunk ++ more) ∙ sym (h chunk))

-- ---- a text and what stands behind it

module _ (text rest : List ℕ) (h : IsWholeText text) where
  whole_first : first_text (text ++ rest) ≡ text
  whole_first = ap (λ n. take n (text ++ rest)) (h rest) ∙ take-append_seam text rest

  whole_behind : text_behind (text ++ rest) ≡ rest
  whole_behind = ap (λ n. drop n (text ++ rest)) (h rest) ∙ drop-append_seam text rest

  whole_ended : TextHasEnded (text ++ rest)
  whole_ended more = ap text_length (append_assoc text rest more) ∙ (h (rest ++ more) ∙ sym (h rest))

-- ---- what a journal's intake takes of a chunk

module _ (side : Role) (old : JournalIntake) (chunk input : List ℕ) (h : HasTakenFirst side old input) where
  module _ (is : old.line ≡ None) where
    ended : TextHasEnded input
    ended = rw is at h.stands

    pub nothing_taken : HasTakenFirst side old (input ++ chunk)
    nothing_taken = record {
      read = subst (HasParsed (journal_of_side side) old.reader) (sym (first_stays input chunk ended)) h.read;
      stands = rw is (still_ended input chunk ended);
    }

    pub all_left : text_behind (input ++ chunk) ≡ text_behind input ++ chunk
    all_left = behind_grows input chunk ended

  module _ (line : Vec ℕ Global) (is : old.line ≡ Some line) where
    goes : TextGoesOn input line.items
    goes = rw is at h.stands

    all_read : HasParsed (journal_of_side side) old.reader input
    all_read = subst (HasParsed (journal_of_side side) old.reader) (all_first input line.items goes) h.read

    -- all of it
    module _ (next : List ℕ) (on : (text : List ℕ) → TextGoesOn text line.items → TextGoesOn (text ++ chunk) next) where
      pub nothing_left : text_behind (input ++ chunk) ≡ text_behind input ++ drop (length chunk) chunk
      nothing_left = none_behind (input ++ chunk) next (on input goes)
          ∙ sym (ap (λ t. t ++ drop (length chunk) chunk) (none_behind input line.items goes) ∙ drop-length chunk)

    module _ (new : JournalIntake) (next : Vec ℕ Global) (still : new.line ≡ Some next) (on : (text : List ℕ)
        → TextGoesOn text line.items → TextGoesOn (text ++ chunk) next.items)
        (read : (parsed : List ℕ → Result Journal JournalFault) (text : List ℕ) → HasParsed parsed old.reader text
        → HasParsed parsed new.reader (text ++ chunk)) where
      pub all_taken : HasTakenFirst side new (input ++ chunk)
      all_taken = record {
        read = subst (HasParsed (journal_of_side side) new.reader)
            (sym (all_first (input ++ chunk) next.items (on input goes))) (read (journal_of_side side) input all_read);
        stands = rw still (on input goes);
      }

    -- up to the end of the text
    module _ (count : ℕ) (whole : (text : List ℕ) → TextGoesOn text line.items
        → IsWholeText (text ++ take count chunk)) where
      cut : (input ++ take count chunk) ++ drop count chunk ≡ input ++ chunk
      cut = append_assoc input (take count chunk) (drop count chunk)
          ∙ ap (λ t. input ++ t) (take-append-drop count chunk)

      pub rest_left : text_behind (input ++ chunk) ≡ text_behind input ++ drop count chunk
      rest_left = sym (ap text_behind cut) ∙ (whole_behind (input ++ take count chunk) (drop count chunk)
          (whole input goes) ∙ sym (ap (λ t. t ++ drop count chunk) (none_behind input line.items goes)))

      module _ (new : JournalIntake) (over : new.line ≡ None) (read :
          (parsed : List ℕ → Result Journal JournalFault) (text : List ℕ) → HasParsed parsed old.reader text
          → HasParsed parsed new.reader (text ++ take count chunk)) where
        pub end_taken : HasTakenFirst side new (input ++ chunk)
        end_taken = subst (HasTakenFirst side new) cut (record {
          read = subst (HasParsed (journal_of_side side) new.reader)
              (sym (whole_first (input ++ take count chunk) (drop count chunk) (whole input goes)))
              (read (journal_of_side side) input all_read);
          stands = rw over (whole_ended (input ++ take count chunk) (drop count chunk) (whole input goes));
        })

-- a journal that parsing gives is written so, closed and of no more lines than a journal may have
pub parsed_few : SideGivesWhatItSpells → (side : Role) (text : List ℕ) (r : Result Journal JournalFault)
    → r ≡ journal_of_side side text → (j : Journal) → r ≡ Ok j → length j.lines < 2 ^ 32
parsed_few spelled side text r is j e = let few = ((spelled side text j).0 (sym is ∙ e)).0.few in omega (arith, few)

pub parsed_closed : SideGivesWhatItSpells → WrittenIsClosed
    → (side : Role) (text : List ℕ) (r : Result Journal JournalFault) → r ≡ journal_of_side side text → (j : Journal)
    → r ≡ Ok j → IsClosed j.lines
parsed_closed spelled closed side text r is j e = closed j ((spelled side text j).0 (sym is ∙ e)).0

-- the chunks of the input, for one text after another
module _ (old new : Intake) (chunk : List ℕ) (first second : ℕ)
    (primary : (side : Role) (input : List ℕ) → HasTakenFirst side old.primary input
    → HasTakenFirst side new.primary (input ++ chunk))
    (behind : (side : Role) (input : List ℕ) → HasTakenFirst side old.primary input
    → text_behind (input ++ chunk) ≡ text_behind input ++ drop first chunk)
    (secondary : (side : Role) (input : List ℕ) → HasTakenFirst side old.secondary input
    → HasTakenFirst side new.secondary (input ++ drop first chunk))
    (rest : (side : Role) (input : List ℕ) → HasTakenFirst side old.secondary input
    → text_behind (input ++ drop first chunk) ≡ text_behind input ++ drop second (drop first chunk))
    (certificate : new.certificate.items ≡ old.certificate.items ++ drop second (drop first chunk)) where
  pub chunk_taken : (input : List ℕ) → IntakeHasTaken old input → IntakeHasTaken new (input ++ chunk)
  chunk_taken input h =
      let later = behind Primary input h.primary in
      record {
        primary = primary Primary input h.primary;
        secondary = subst (HasTakenFirst Secondary new.secondary) (sym later)
            (secondary Secondary (text_behind input) h.secondary);
        certificate = certificate ∙ (ap (λ t. t ++ drop second (drop first chunk)) h.certificate
            ∙ (sym (rest Secondary (text_behind input) h.secondary) ∙ ap text_behind (sym later)));
      }

-- the same for two texts, the second of which is all that follows
module _ (old new : PairIntake) (chunk : List ℕ) (first : ℕ)
    (primary : (side : Role) (input : List ℕ) → HasTakenFirst side old.primary input
    → HasTakenFirst side new.primary (input ++ chunk))
    (behind : (side : Role) (input : List ℕ) → HasTakenFirst side old.primary input
    → text_behind (input ++ chunk) ≡ text_behind input ++ drop first chunk)
    (secondary : (parsed : List ℕ → Result Journal JournalFault) (text : List ℕ) → HasParsed parsed old.secondary text
    → HasParsed parsed new.secondary (text ++ drop first chunk)) where
  pub pair_taken : (input : List ℕ) → HasTakenPair old input → HasTakenPair new (input ++ chunk)
  pair_taken input h = record {
    primary = primary Primary input h.primary;
    secondary = subst (HasParsed (journal_of_side Secondary) new.secondary) (sym (behind Primary input h.primary))
        (secondary (journal_of_side Secondary) (text_behind input) h.secondary);
  }
