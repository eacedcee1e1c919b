-- A server's volumes stay legal where the open one goes on.
use Rattle.std.proofs.Common.{◌≡◌, ℕ, zero, suc, ◌+◌, Bool, true, false, List, [], ◌∷◌, ◌++◌, length, map, take, drop}
use Rattle.std.proofs.Common.{refl, sym, ◌∙◌, ap, subst, arith}
use Rattle.std.specs.Prelude.{if◌then◌else◌, ◌||◌}
use Rattle.binding_rules.specs.declared.role.Role.{Role}
use Rattle.journal_lines.specs.Head.{volume_number}
use Rattle.journal_lines.specs.declared.line.Line.{Line}
use Rattle.journal_lines.specs.declared.line.Journal.{Journal}
use Rattle.journal_text.specs.Position.{Position, start}
use Rattle.book_state.specs.Book.{BookState, blank}
use Rattle.book_state.specs.Effects.{after}
use Rattle.book_rules.specs.Volumes.{IsVolume, book_after}
use Rattle.book_rules.specs.NextHead.{AreNextHead, is_head, head_lines, AreVolumes}
use Rattle.order_book.specs.Replayed.{state_of, IsLegal}
use Rattle.open_volume.specs.declared.volume.VolumeSoFar.{VolumeSoFar}
use Rattle.open_volume.specs.Spelling.{behind_all, IsWrittenSoFar}
use Rattle.open_volume.proofs.Phases.{closed_phase}
use Rattle.volume_store.specs.Folder.{lines_of, AreVolumesSoFar}
use Rattle.volume_store.specs.Volumes.{ended_volume}
use Rattle.server_core.specs.VolumeWriters.{has_head}
use Rattle.server_core.specs.Going.{so_far}
use Rattle.server_core.specs.Servers.{IsFront}

neither : (x y : Bool) → (x || y) ≡ false → x ≡ false
neither true y none = absurd cc
neither false y none = refl

-- the head lines stand before any other line
heads_in_front : (n : ℕ) (ls : List Line) → has_head (drop n ls) ≡ false → head_lines ls ≡ head_lines (take n ls)
heads_in_front zero [] none = refl
heads_in_front zero (l ∷ ls) none =
    ap (λ (b : Bool). if b then l ∷ head_lines ls else []) (neither (is_head l.event) (has_head ls) none)
heads_in_front (suc n) [] none = refl
heads_in_front (suc n) (l ∷ ls) none =
    ap (λ (hs : List Line). if is_head l.event then l ∷ hs else []) (heads_in_front n ls none)

-- the last of legal volumes may be another that begins with the same head lines
legal_with : (role : Role) (n : ℕ) (vs : List VolumeSoFar) (v w : VolumeSoFar)
    → AreVolumes role n (map lines_of (vs ++ v ∷ [])) → IsVolume role (length vs + n) w.journal.lines
    → head_lines v.journal.lines ≡ head_lines w.journal.lines
    → AreVolumes role n (map lines_of (vs ++ w ∷ []))
legal_with role n [] v w legal one heads = subst (λ (m : ℕ). IsVolume role m w.journal.lines) (omega arith) one
legal_with role n (x ∷ []) v w legal one heads = (
  legal.0,
  subst (AreNextHead (book_after (blank role n) x.journal.lines) x.journal.lines) heads legal.1,
  subst (λ (m : ℕ). IsVolume role m w.journal.lines) (omega arith) one,
)
legal_with role n (x ∷ y ∷ vs) v w legal one heads = (
  legal.0,
  legal.1,
  legal_with role (n + 1) (y ∷ vs) v w legal.2 (subst (λ (m : ℕ). IsVolume role m w.journal.lines) (omega arith) one)
      heads,
)

module _ (role : Role) (earlier : List VolumeSoFar) (j k : Journal) (w : VolumeSoFar) (its : w.journal ≡ k)
    (vs : AreVolumesSoFar role earlier (so_far j))
    (front : IsFront j k) (more : has_head (drop (length j.lines) k.lines) ≡ false) (legal : IsLegal k)
    (written : IsWrittenSoFar w) where
  role_is : k.role ≡ role
  role_is = sym (ap (λ (i : Journal). i.role) front) ∙ vs.more.its

  number_is : volume_number k.head ≡ length earlier + 1
  number_is = sym (ap (λ (i : Journal). volume_number i.head) front) ∙ vs.more.numbered

  heads : head_lines j.lines ≡ head_lines k.lines
  heads = ap (λ (i : Journal). head_lines i.lines) front ∙ sym (heads_in_front (length j.lines) k.lines more)

  is_legal : IsVolume role (length earlier + 1) k.lines
  is_legal = subst (λ (r : Role). IsVolume r (length earlier + 1) k.lines) role_is
      (subst (λ (n : ℕ). IsVolume k.role n k.lines) number_is legal)

  -- the volumes are the server's with the journal that goes on in the place of the one that was there
  pub go_on : AreVolumesSoFar role earlier w
  go_on = record {
    have_ended = vs.have_ended;
    more = record {
      its = ap (λ (i : Journal). i.role) its ∙ role_is;
      numbered = ap (λ (i : Journal). volume_number i.head) its ∙ number_is;
      written = written;
    };
    legal = legal_with role 1 earlier (so_far j) w vs.legal
        (subst (λ (i : Journal). IsVolume role (length earlier + 1) i.lines) (sym its) is_legal)
        (heads ∙ sym (ap (λ (i : Journal). head_lines i.lines) its));
  }

-- ---- a closed volume

-- where a text stands whose lines led to this book
abbrev place : BookState → Position
place b = record { count = b.count; reading = b.reading; is_closed = b.closed }

placed : (ls : List Line) (b : BookState) → behind_all (place b) ls ≡ place (book_after b ls)
placed [] b = refl
placed (l ∷ ls) b = placed ls (after b l)

-- a closed book's volume has a text to its end line, where it has one so far
pub written_to_end : (j : Journal) → (state_of j).closed ≡ true → IsWrittenSoFar (so_far j)
    → IsWrittenSoFar (ended_volume j)
written_to_end j closed w = record {
  head = w.head;
  few = w.few;
  numbers = w.numbers;
  readings = w.readings;
  closing = w.closing;
  phase = closed_phase (behind_all start j.lines)
      (ap (λ (at : Position). at.is_closed) (placed j.lines (blank j.role (volume_number j.head))) ∙ closed);
  ranges = w.ranges;
}
