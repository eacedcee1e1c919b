-- A book's volume of which the file has the first lines, all of them on the disk.
use Rattle.std.proofs.Common.{◌≡◌, ℕ, zero, suc, ◌+◌, ◌≤◌, List, [], ◌∷◌, ◌++◌, length, map, take, refl, sym, ◌∙◌}
use Rattle.std.proofs.Common.{ap, subst, arith, append-nil}
use Rattle.std.proofs.lemmas.List.{length-append, length-map, take_all}
use Rattle.journal_lines.specs.declared.line.Line.{Line}
use Rattle.journal_lines.specs.declared.line.Journal.{Journal}
use Rattle.journal_text.specs.Spelling.{line_text, head_text, head_line}
use Rattle.order_book.specs.Replayed.{with_line}
use Rattle.disk_model.specs.Disk.{Call}
use Rattle.disk_model.specs.Open.{lines_in}
use Rattle.disk_model.specs.Volumes.{HasSettled}
use Rattle.open_volume.specs.Spelling.{text_lines, end_lines}
use Rattle.open_volume.specs.declared.volume.Phase.TheVariants.{Ended}
use Rattle.volume_store.specs.Volumes.{going_on, ended_volume, HasVolume}

-- the first so many lines of the text, the head line among them
pub record HasFront (calls : List Call) (j : Journal) (lines : ℕ) : Type 0 where
  pub settled : HasSettled calls (take lines (text_lines (going_on j)))
  pub begun : 1 ≤ lines
  pub within : lines ≤ length j.lines + 1

settled_as : (calls : List Call) (ls ms : List (List ℕ)) → ls ≡ ms → HasSettled calls ls → HasSettled calls ms
settled_as calls ls ms same settled = subst (λ (ts : List (List ℕ)). HasSettled calls ts) same settled

-- ---- all lines are in front

size_of : (j : Journal) → length (text_lines (going_on j)) ≡ length j.lines + 1
size_of j =
    let lines = ap length (append-nil (map line_text j.lines)) ∙ length-map j.lines line_text in
    omega (arith, lines)

pub all_in_front : (calls : List Call) (j : Journal) (lines : ℕ) → HasVolume calls (going_on j)
    → lines ≡ length j.lines + 1 → HasFront calls j lines
all_in_front calls j lines has all = record {
  settled = settled_as calls _ _ (sym (take_all lines (text_lines (going_on j)) (omega (arith, size_of j, all)))) has;
  begun = omega (arith, all);
  within = omega (arith, all);
}

-- ---- a line more

grown : (ls : List Line) (l : Line) (k : ℕ) → k ≤ length ls
    → take k (map line_text ls ++ []) ≡ take k (map line_text (ls ++ l ∷ []) ++ [])
grown ls l zero few = refl
grown [] l (suc k) few = absurd (omega (arith, few))
grown (x ∷ ls) l (suc k) few =
    ap (λ (ts : List (List ℕ)). line_text x ∷ ts) (grown ls l k (omega (arith, few)))

front_grown : (j : Journal) (l : Line) (lines : ℕ) → lines ≤ length j.lines + 1
    → take lines (text_lines (going_on j)) ≡ take lines (text_lines (going_on (with_line j l)))
front_grown j l zero few = refl
front_grown j l (suc k) few =
    ap (λ (ts : List (List ℕ)). head_text (head_line j) ∷ ts) (grown j.lines l k (omega (arith, few)))

front_of_more : (calls : List Call) (j : Journal) (l : Line) (lines : ℕ) → HasFront calls j lines
    → HasFront calls (with_line j l) lines
front_of_more calls j l lines front =
    let size = length-append j.lines (l ∷ []) in
    let few = front.within in
    record {
      settled = settled_as calls _ _ (front_grown j l lines front.within) front.settled;
      begun = front.begun;
      within = omega (arith, size, few);
    }

pub stays_in_front : (calls : List Call) (j k : Journal) (lines : ℕ) → HasFront calls j lines
    → (l : Line) × (k ≡ with_line j l) → HasFront calls k lines
stays_in_front calls j k lines front more =
    subst (λ (i : Journal). HasFront calls i lines) (sym more.1) (front_of_more calls j more.0 lines front)

-- ---- of a volume's text to its end

with_end : (ls : List Line) (ends : List (List ℕ)) (k : ℕ) → k ≤ length ls
    → take k (map line_text ls ++ []) ≡ take k (map line_text ls ++ ends)
with_end ls ends zero few = refl
with_end [] ends (suc k) few = absurd (omega (arith, few))
with_end (x ∷ ls) ends (suc k) few =
    ap (λ (ts : List (List ℕ)). line_text x ∷ ts) (with_end ls ends k (omega (arith, few)))

front_with_end : (j : Journal) (lines : ℕ) → lines ≤ length j.lines + 1
    → take lines (text_lines (going_on j)) ≡ take lines (text_lines (ended_volume j))
front_with_end j zero few = refl
front_with_end j (suc k) few =
    ap (λ (ts : List (List ℕ)). head_text (head_line j) ∷ ts)
    (with_end j.lines (end_lines Ended (length j.lines)) k (omega (arith, few)))

front_of_ended : (calls : List Call) (j : Journal) (lines : ℕ) → HasFront calls j lines
    → lines_in calls ≡ take lines (text_lines (ended_volume j))
front_of_ended calls j lines front = front.settled.lines_are ∙ front_with_end j lines front.within

-- where a closed book's file has the lines of the book before its close line
pub closed_in_front : (calls : List Call) (j k : Journal) (lines : ℕ) → HasFront calls j lines
    → (l : Line) × (k ≡ with_line j l) → lines_in calls ≡ take lines (text_lines (ended_volume k))
closed_in_front calls j k lines front more = front_of_ended calls k lines (stays_in_front calls j k lines front more)
