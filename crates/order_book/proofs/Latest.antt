-- The places of last grant lines, line by line.
use Rattle.std.proofs.Common.{◌≡◌, ℕ, ◌+◌, ◌&&◌, ◌==◌, Bool, true, false, cond, List, [], ◌∷◌, ◌++◌, length, take, drop}
use Rattle.std.proofs.Common.{drop-cons, add-one, suc, get_or, ◌<◌, ◌≤◌, ap, ap₂, sym, ◌∙◌, refl, Option, Some, None}
use Rattle.std.proofs.Common.{arith, subst}
use Rattle.std.proofs.lemmas.List.{drop_all}
use Rattle.std.specs.Prelude.{is_some, if◌then◌else◌}
use Rattle.std.specs.declared.cmp.Ordering.{Ordering}
use Rattle.std.specs.declared.cmp.Ordering.TheVariants.{Less, Equal, Greater}
use Rattle.std.specs.Ordering.{nat_cmp, is_eq, ordering_then}
use Rattle.std.specs.Cmp.{unsigned_ties}
use Rattle.std.specs.BTreeMap.{get}
use Rattle.prefix_range.specs.Prefix.{Prefix}
use Rattle.binding_rules.specs.declared.role.Role.{Role}
use Rattle.journal_lines.specs.declared.event.Event.{Event}
use Rattle.journal_lines.specs.declared.line.Line.{Line}
use Rattle.journal_lines.specs.declared.line.Journal.{Journal}
use Rattle.journal_lines.specs.Head.{volume_number}
use Rattle.book_state.specs.Book.{BookState, blank}
use Rattle.book_state.specs.Effects.{after, same_prefix}
use Rattle.book_state.proofs.TableLaws.{same_means}
use Rattle.book_rules.specs.declared.table.Table.{Table}
use Rattle.book_rules.specs.State.{state}
use Rattle.book_rules.specs.Rules.{IsStep}
use Rattle.book_rules.specs.Volumes.{book_after}
use Rattle.book_rules.proofs.Replays.{IsReplayed, none_replayed, one_replayed, all_replayed}
use Rattle.order_book.specs.Replayed.{state_of, with_line}
use Rattle.order_book.specs.LatestGrants.{latest_by, latest_from, latest_grant}
use Rattle.order_book.specs.LatestPlaces.{Places, key_of, key_cmp, known, place_in, AreLatest, IsBook}

-- ---- units that tie are one

then_is_eq : (a b : Ordering) → is_eq (ordering_then a b) ≡ (is_eq a && is_eq b)
then_is_eq Less b = refl
then_is_eq Equal b = refl
then_is_eq Greater b = refl

same_key : (p q : Prefix) → is_eq (key_cmp (key_of p) (key_of q)) ≡ same_prefix p q
same_key p q =
    then_is_eq (nat_cmp p.address q.address) (nat_cmp p.length q.length)
    ∙ ap₂ (λ (x y : Bool). x && y) (sym (unsigned_ties p.address q.address)) (sym (unsigned_ties p.length q.length))

-- ---- one unit changes

known_if : (t : Bool) (w o : Option (Option ℕ)) → known (cond t w o) ≡ (if t then known w else known o)
known_if true w o = refl
known_if false w o = refl

pub place_anew : (m n : Places) (p : Prefix) (key : ℕ × ℕ) (w : Option (Option ℕ)) → key ≡ key_of p
    → ((k : ℕ × ℕ) → get key_cmp n k ≡ cond (is_eq (key_cmp key k)) w (get key_cmp m k))
    → (q : Prefix) → place_in n q ≡ (if same_prefix p q then known w else place_in m q)
place_anew m n p key w is updates q =
    ap known (updates (key_of q)) ∙ (known_if (is_eq (key_cmp key (key_of q))) w (get key_cmp m (key_of q))
    ∙ (ap (λ (k : ℕ × ℕ). if is_eq (key_cmp k (key_of q)) then known w else place_in m q) is
    ∙ ap (λ t. if t then known w else place_in m q) (same_key p q)))

pub missing : (o : Option (Option ℕ)) (b : Bool) → b ≡ is_some o → b ≡ false → o ≡ None
missing None b is off = refl
missing (Some o) b is off = absurd (cc)

-- room alone changes no place
same_if : (t : Bool) (o : Option ℕ) → (t ≡ true → o ≡ None) → (if t then None else o) ≡ o
same_if true o none = sym (none refl)
same_if false o none = refl

pub place_same : (m n : Places) (p : Prefix) (key : ℕ × ℕ) → key ≡ key_of p → get key_cmp m key ≡ None
    → ((k : ℕ × ℕ) → get key_cmp n k ≡ cond (is_eq (key_cmp key k)) (Some None) (get key_cmp m k))
    → (q : Prefix) → place_in n q ≡ place_in m q
place_same m n p key is absent updates q =
    place_anew m n p key (Some None) is updates q ∙ same_if (same_prefix p q) (place_in m q) (λ e.
    ap known (ap (λ (x : Prefix). get key_cmp m (key_of x)) (sym (same_means p q e))
    ∙ (ap (get key_cmp m) (sym is) ∙ absent)))

-- ---- line by line

pub record GoesOn (m : Places) (lines : List Line) (i : ℕ) (b c : BookState) : Type 0 where
  pub each : (q : Prefix) → latest_from i c (drop i lines) q (place_in m q) ≡ latest_from 0 b lines q None

pub none_yet : (m : Places) (lines : List Line) (b c : BookState) → c ≡ b → ((q : Prefix) → place_in m q ≡ None)
    → GoesOn m lines 0 b c
none_yet m lines b c same none = record {
  each = λ q. ap₂ (λ (x : BookState) (o : Option ℕ). latest_from 0 x lines q o) same (none q);
}

pub one_line_on : (m n : Places) (lines : List Line) (i : ℕ) (b c d : BookState) (l : Line) → i < length lines
    → l ≡ get_or lines i l → GoesOn m lines i b c → d ≡ after c l
    → ((q : Prefix) → place_in n q ≡ latest_by d i l.event q (place_in m q)) → GoesOn n lines (i + 1) b d
one_line_on m n lines i b c d l lt is goes same noted = record { each = step } where
  step : (q : Prefix) → latest_from (i + 1) d (drop (i + 1) lines) q (place_in n q) ≡ latest_from 0 b lines q None
  step q =
      let here : drop i lines ≡ l ∷ drop (suc i) lines = drop-cons lines i l lt
      ∙ ap (λ (x : Line). x ∷ drop (suc i) lines) (sym is) in
      ap (λ (o : Option ℕ). latest_from (i + 1) d (drop (i + 1) lines) q o) (noted q)
      ∙ (ap (λ (x : BookState). latest_from (i + 1) x (drop (i + 1) lines) q (latest_by x i l.event q (place_in m q))) same
      ∙ (ap (λ (k : ℕ). latest_from (i + 1) (after c l) (drop k lines) q (latest_by (after c l) i l.event q (place_in m q)))
      (add-one i)
      ∙ (ap (λ (ls : List Line). latest_from i c ls q (place_in m q)) (sym here) ∙ goes.each q)))

pub all_lines : (m : Places) (j : Journal) (i : ℕ) (c : BookState) → length j.lines ≤ i
    → GoesOn m j.lines i (blank j.role (volume_number j.head)) c → AreLatest j m
all_lines m j i c le goes = record {
  each = λ q. ap (λ (ls : List Line). latest_from i c ls q (place_in m q)) (sym (drop_all i j.lines le)) ∙ goes.each q;
}

-- ---- one line more

latest_push : (place : ℕ) (b : BookState) (ls : List Line) (l : Line) (q : Prefix) (o : Option ℕ)
    → latest_from place b (ls ++ l ∷ []) q o
    ≡ latest_by (after (book_after b ls) l) (place + length ls) l.event q (latest_from place b ls q o)
latest_push place b [] l q o = ap (λ (k : ℕ). latest_by (after b l) k l.event q o) (omega arith)
latest_push place b (k ∷ ks) l q o =
    latest_push (place + 1) (after b k) ks l q (latest_by (after b k) place k.event q o)
    ∙ ap (λ (n : ℕ). latest_by (after (book_after (after b k) ks) l) n l.event q
    (latest_from (place + 1) (after b k) ks q (latest_by (after b k) place k.event q o))) (omega arith)

latest_with : (j : Journal) (l : Line) (q : Prefix)
    → latest_grant (with_line j l) q ≡ latest_by (after (state_of j) l) (length j.lines) l.event q (latest_grant j q)
latest_with j l q =
    latest_push 0 (blank j.role (volume_number j.head)) j.lines l q None
    ∙ ap (λ (n : ℕ). latest_by (after (state_of j) l) n l.event q (latest_grant j q)) (omega arith)

pub latest_line : (j : Journal) (m n : Places) (l : Line) (c : BookState) (place : ℕ) → AreLatest j m
    → c ≡ after (state_of j) l → place ≡ length j.lines
    → ((q : Prefix) → place_in n q ≡ latest_by c place l.event q (place_in m q)) → AreLatest (with_line j l) n
latest_line j m n l c place are same at noted = record { each = step } where
  step : (q : Prefix) → place_in n q ≡ latest_grant (with_line j l) q
  step q =
      noted q ∙ (ap₂ (λ (x : BookState) (k : ℕ). latest_by x k l.event q (place_in m q)) same at
      ∙ (ap (λ (o : Option ℕ). latest_by (after (state_of j) l) (length j.lines) l.event q o) (are.each q)
      ∙ sym (latest_with j l q)))

pub same_latest : (j : Journal) (m n : Places) → AreLatest j m → ((q : Prefix) → place_in n q ≡ place_in m q)
    → AreLatest j n
same_latest j m n are same = record { each = λ q. same q ∙ are.each q }

-- ---- lines that are replayed one by one

-- so many lines are replayed, to this book and these places
pub record IsReplayedTo (role : Role) (volume : ℕ) (lines : List Line) (i place : ℕ) (b : BookState) (m : Places)
    : Type 0 where
  pub place_is : place ≡ i
  pub book : IsReplayed role volume lines i b
  pub latest : GoesOn m lines i (blank role volume) b

pub none_replayed_to : (role : Role) (volume : ℕ) (lines : List Line) (b : BookState) (m : Places)
    → b ≡ blank role volume → ((q : Prefix) → place_in m q ≡ None) → IsReplayedTo role volume lines 0 0 b m
none_replayed_to role volume lines b m is none = record {
  place_is = refl;
  book = none_replayed role volume lines b is;
  latest = none_yet m lines (blank role volume) b is none;
}

pub one_replayed_to : (role : Role) (volume : ℕ) (lines : List Line) (i place : ℕ) (b c : BookState) (m o n : Places)
    (l : Line) → i < length lines → l ≡ get_or lines i l → IsReplayedTo role volume lines i place b m → IsStep b l
    → c ≡ after b l → ((q : Prefix) → place_in o q ≡ place_in m q)
    → ((q : Prefix) → place_in n q ≡ latest_by c place l.event q (place_in o q))
    → IsReplayedTo role volume lines (i + 1) (place + 1) c n
one_replayed_to role volume lines i place b c m o n l lt is h step entered same noted = record {
  place_is = ap (λ (k : ℕ). k + 1) h.place_is;
  book = one_replayed role volume lines i b c l lt is h.book step entered;
  latest = one_line_on m n lines i (blank role volume) b c l lt is h.latest entered (λ q.
      noted q ∙ ap₂ (λ (k : ℕ) (x : Option ℕ). latest_by c k l.event q x) h.place_is (same q));
}

pub all_replayed_to : (j : Journal) (t : Table) (i place : ℕ) (m : Places) → length j.lines ≤ i
    → IsReplayedTo j.role (volume_number j.head) j.lines i place (state t) m → IsBook j t m
all_replayed_to j t i place m le h =
    let all = all_replayed j.role (volume_number j.head) j.lines i (state t) le h.book in
    record { kept = record { legal = all.0; table = all.1 }; latest = all_lines m j i (state t) le h.latest }
