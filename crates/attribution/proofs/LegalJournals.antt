-- What a journal that breaks no rule keeps: readings in order, one close line at its end, serials of earlier volumes
-- below its own.
use Rattle.std.specs.Prelude.{◌≡◌, ℕ, ◌+◌, ◌*◌, ◌<◌, ◌≤◌, ◌⊎◌, Bool, true, false, List, [], ◌∷◌, Option, Some, None}
use Rattle.std.specs.Prelude.{slice_get, length, if◌then◌else◌}
use Rattle.std.proofs.Common.{zero, suc, arith, sym, ◌∙◌, ap, subst, inl, inr, refl}
use Rattle.std.proofs.lemmas.Bool.{cases_lt}
use Rattle.std.proofs.lemmas.Bool.Decides.{leb_tells}
use Rattle.binding_rules.specs.declared.role.Role.{Role}
use Rattle.binding_rules.specs.Role.{partner_of}
use Rattle.binding_rules.specs.declared.message.PartnerMessage.{PartnerMessage}
use Rattle.journal_lines.specs.declared.kept.BookNumbers.{BookNumbers}
use Rattle.journal_lines.specs.declared.kept.Carried.{Carried}
use Rattle.journal_lines.specs.declared.event.Lease.{Lease}
use Rattle.journal_lines.specs.declared.event.Event.{Event}
use Rattle.journal_lines.specs.declared.event.Event.TheVariants.{Base, Send, Grant}
use Rattle.journal_lines.specs.declared.line.Line.{Line}
use Rattle.journal_lines.specs.Close.{is_close, until_close}
use Rattle.causal_order.specs.Journals.{Journals, journal_of, volume_of}
use Rattle.book_rules.specs.declared.rule.Rule.TheVariants.{Sequence, Serial}
use Rattle.book_state.specs.Book.{BookState, blank}
use Rattle.book_rules.specs.VolumeRules.{KeepsSequence}
use Rattle.book_state.specs.Effects.{after}
use Rattle.book_rules.specs.Volumes.{AreSteps, IsVolume, book_after}
use Rattle.journal_merge.specs.Messages.{base_serial, earlier_serial, is_at_most}
use Rattle.attribution.proofs.Orders.{NeverFalls}
use Rattle.attribution.proofs.Placed.{EarlierArePassed}
use Rattle.attribution.specs.Delegation.{of_lease}
use Rattle.attribution.specs.Lawful.{IsOf, Accounted, Lawful}
use Rattle.attribution.proofs.Steps.{finite}
use Rattle.attribution.proofs.Serials.{IsBase, Rise, rise_nil, rises_by, no_base_in, serials_rise, base_rises}

from_reading : (ls : List Line) (b : BookState) → AreSteps b ls → (k : ℕ) (o : Line) → slice_get ls k ≡ Some o
    → b.reading ≤ o.reading
from_reading [] b steps k o at = absurd (cc)
from_reading (x ∷ xs) b steps zero o at =
    let e : x ≡ o = cc in
    let s : KeepsSequence b x = steps.0 Sequence in
    let h = s.later in
    let r = ap (λ (l : Line). l.reading) e in
    omega arith
from_reading (x ∷ xs) b steps (suc k) o at =
    let s : KeepsSequence b x = steps.0 Sequence in
    let h = s.later in
    let r = from_reading xs (after b x) steps.1 k o at in
    omega arith

pub never_falls : (ls : List Line) (b : BookState) → AreSteps b ls → NeverFalls ls
never_falls [] b steps i k l o le a c = absurd (cc)
never_falls (x ∷ xs) b steps zero zero l o le a c = let e : l ≡ o = cc in let r = ap (λ (l : Line). l.reading) e in
    omega arith
never_falls (x ∷ xs) b steps zero (suc k) l o le a c =
    let e : x ≡ l = cc in
    let r = ap (λ (l : Line). l.reading) e in
    let h = from_reading xs (after b x) steps.1 k o c in
    omega arith
never_falls (x ∷ xs) b steps (suc i) zero l o le a c = absurd (omega arith)
never_falls (x ∷ xs) b steps (suc i) (suc k) l o le a c = never_falls xs (after b x) steps.1 i k l o (omega arith) a c

none_behind : (x : Line) (xs : List Line) (b : BookState) → AreSteps (after b x) xs → is_close x.event ≡ true → xs ≡ []
none_behind x [] b steps e = refl
none_behind x (y ∷ ys) b steps e = let s : KeepsSequence (after b x) y = steps.0 Sequence in let free = s.is_open in
    absurd (cc)

whole_by : (x : Line) (xs : List Line) (t : Bool) → (t ≡ true → xs ≡ []) → until_close xs ≡ xs
    → (if t then x ∷ [] else x ∷ until_close xs) ≡ x ∷ xs
whole_by x xs true none h = ap (λ ls. x ∷ ls) (sym (none refl))
whole_by x xs false none h = ap (λ ls. x ∷ ls) h

pub is_whole : (ls : List Line) (b : BookState) → AreSteps b ls → until_close ls ≡ ls
is_whole [] b steps = refl
is_whole (x ∷ xs) b steps = whole_by x xs (is_close x.event) (none_behind x xs b steps.1)
    (is_whole xs (after b x) steps.1)

-- ---- serials of earlier volumes

base_by : (e : Event) (rest : Option ℕ) (n : ℕ) → base_serial e rest ≡ Some n
    → ((m : BookNumbers) × (e ≡ Base m) × (m.serial ≡ n)) ⊎ (rest ≡ Some n)
base_by (Base m) rest n h = inl (m, refl, cc)
base_by _ rest n h = inr h

abbrev BaseThere : List Line → ℕ → Type 0
BaseThere ls n = (j : ℕ) × (l : Line) × (m : BookNumbers) × (slice_get ls j ≡ Some l) × (l.event ≡ Base m)
    × (m.serial ≡ n)

base_there : (ls : List Line) (n : ℕ) → earlier_serial ls ≡ Some n → BaseThere ls n
unfolding earlier_serial
base_there [] n h = absurd (cc)
base_there (x ∷ xs) n h = elim (base_by x.event (earlier_serial xs) n h) [
  | inl m ↦ (0, x, m.0, refl, m.1, m.2)
  | inr rest ↦ (let r = base_there xs n rest in (suc r.0, r.1, r.2, r.3, r.4, r.5))
]

at_most : (serial : ℕ) (o : Option ℕ) → is_at_most serial o ≡ true → (n : ℕ) × (o ≡ Some n) × (serial ≤ n)
at_most serial None h = absurd (cc)
at_most serial (Some n) h = (n, refl, elim (leb_tells serial n) [ inl t ↦ t.1 | inr t ↦ (let x = t.0 in absurd (cc)) ])

pub passed_over : (js : Journals) → ((side : Role) → IsVolume side (volume_of js side) (journal_of js side))
    → EarlierArePassed js
passed_over js legal r l m names takes earlier =
    let side = partner_of r.side in
    let lines = journal_of js side in
    let number = volume_of js side in
    let a = at_most m.serial (earlier_serial lines) earlier in
    let base = base_there lines a.0 a.1 in
    elim (cases_lt 1 number) [
      | inl over ↦ (
        over,
        λ k o x at sends same. (
            let rise = base_rises lines (blank side number) (legal side) tt over base.0 base.1 base.2 base.3 base.4 in
            let above = (rise.within k o x at sends).0 in
            let low = base.5 in
            let le = a.2 in
            absurd (omega arith)
            ),
      )
      | inr one ↦ absurd (no_base_in lines (blank side number) (legal side) (inl (omega arith)) base.0 base.1 base.3
          (subst IsBase (sym base.4) tt))
    ]

-- ---- one volume is lawful

none_by : (e : Event) (rest : Option ℕ) → base_serial e rest ≡ None → (IsBase e → ⊥) × (rest ≡ None)
none_by (Base m) rest h = absurd (cc)
none_by _ rest h = ((λ is. is), h)

no_base_there : (ls : List Line) → earlier_serial ls ≡ None → (k : ℕ) (l : Line) → slice_get ls k ≡ Some l
    → IsBase l.event → ⊥
unfolding earlier_serial
no_base_there [] h k l at is = absurd (cc)
no_base_there (x ∷ xs) h zero l at is = let e : x ≡ l = cc in
    (none_by x.event (earlier_serial xs) h).0 (subst (λ (y : Line). IsBase y.event) (sym e) is)
no_base_there (x ∷ xs) h (suc k) l at is = no_base_there xs (none_by x.event (earlier_serial xs) h).1 k l at is

rises_free : (ls : List Line) (b : BookState) → AreSteps b ls
    → ((k : ℕ) (l : Line) → slice_get ls k ≡ Some l → IsBase l.event → ⊥) → Rise b.serial ls (book_after b ls).serial
rises_free [] b steps none = rise_nil b.serial
rises_free (y ∷ ys) b steps none =
    rises_by b y.reading (book_after b (y ∷ ys)).serial y ys y.event refl (steps.0 Serial) (none 0 y refl)
    (rises_free ys (after b y) steps.1 (λ k l at. none (suc k) l at))

rises_by_base : (side : Role) (number : ℕ) (ls : List Line) → IsVolume side number ls → 1 < number → (o : Option ℕ)
    → earlier_serial ls ≡ o → (low : ℕ) × Rise low ls (book_after (blank side number) ls).serial
rises_by_base side number ls legal over None e = (0, rises_free ls (blank side number) legal (no_base_there ls e))
rises_by_base side number ls legal over (Some n) e =
    let base = base_there ls n e in
    (base.2.serial, base_rises ls (blank side number) legal tt over base.0 base.1 base.2 base.3 base.4)

pub rises : (side : Role) (number : ℕ) (ls : List Line) → IsVolume side number ls
    → (low : ℕ) × Rise low ls (book_after (blank side number) ls).serial
rises side number ls legal = elim (cases_lt 1 number) [
  | inl over ↦ rises_by_base side number ls legal over (earlier_serial ls) refl
  | inr one ↦ (0, serials_rise ls (blank side number) legal (inl one))
]

only : (ls v : List Line) (n : ℕ) → slice_get (ls ∷ []) n ≡ Some v → (n ≡ 0) × (v ≡ ls)
only ls v zero at = let e : ls ≡ v = cc in (refl, sym e)
only ls v (suc n) at = absurd (cc)

pub one_lawful : (side : Role) (number : ℕ) (ls : List Line) → IsVolume side number ls → Lawful (ls ∷ [])
one_lawful side number ls legal = record { once = once; finite = ends; accounted = accounted } where
  read : (n k : ℕ) (v : List Line) (l : Line) → slice_get (ls ∷ []) n ≡ Some v → slice_get v k ≡ Some l
      → slice_get ls k ≡ Some l
  read n k v l at here = subst (λ xs. slice_get xs k ≡ Some l) (only ls v n at).1 here

  once : (n m j k : ℕ) (v w : List Line) (l o : Line) (x y : PartnerMessage) → m + 1 ≡ length (ls ∷ [])
      → slice_get (ls ∷ []) n ≡ Some v → slice_get (ls ∷ []) m ≡ Some w
      → slice_get v j ≡ Some l → l.event ≡ Send x → slice_get w k ≡ Some o → o.event ≡ Send y → x.serial ≡ y.serial
      → (n ≡ m) × (j ≡ k)
  once n m j k v w l o x y last a b c d e f g = (
    (only ls v n a).0 ∙ sym (only ls w m b).0,
    (rises side number ls legal).1.once j k l o x y (read n j v l a c) d (read m k w o b e) f g,
  )

  ends : (n k : ℕ) (v : List Line) (l : Line) (g : Lease) → slice_get (ls ∷ []) n ≡ Some v → slice_get v k ≡ Some l
      → l.event ≡ Grant g → g.valid ≤ 31536000
  ends n k v l g a b c = finite ls (blank side number) legal (inl refl) k l g (read n k v l a b) c

  accounted : (m n k : ℕ) (v w : List Line) (l : Line) (g : Lease) (c : Carried) → n < m
      → slice_get (ls ∷ []) n ≡ Some v → slice_get (ls ∷ []) m ≡ Some w
      → slice_get v k ≡ Some l → l.event ≡ Grant g → IsOf c (of_lease g) → c.end ≡ l.reading + 1000 * g.valid
      → Accounted (ls ∷ []) n k m w c
  accounted m n k v w l g c lt a b d e f h = let x = (only ls w m b).0 in absurd (omega arith)
