-- A body that is read is spelled so, and a body that is spelled is read again.
use Rattle.std.proofs.Common.{◌≡◌, ℕ, ◌^◌, ◌≤◌, List, [], ◌∷◌, ◌++◌, Option, Some, refl, ap, subst, ◌∙◌, append_assoc}
use Rattle.std.proofs.Common.{arith}
use Rattle.std.specs.Int.{w32}
use Rattle.text_fields.specs.Parsing.{◌>>=◌}
use Rattle.text_fields.proofs.Steps.{bind_some, some_is}
use Rattle.prefix_range.specs.Prefix.{Prefix, IsPrefix}
use Rattle.binding_rules.specs.declared.role.Role.{Role}
use Rattle.binding_rules.specs.declared.update.Update.{Update}
use Rattle.binding_rules.specs.declared.update.BindReply.{BindReply}
use Rattle.failover_message.specs.declared.codes.TheConstants.{STATUSES, ACKNOWLEDGEMENTS, ROLES}
use Rattle.failover_message.specs.Frames.{number_octets, count_octets, prefix_octets, client_octets, status_code}
use Rattle.failover_message.specs.Frames.{acknowledgement_code, role_code, update_octets, reply_octets, greeting_octets}
use Rattle.binding_rules.specs.Messages.{has_client, latest_end, IsUpdate, IsReply}
use Rattle.binding_rules.specs.Statuses.{end_fits}
use Rattle.failover_message.specs.Parsing.{limited_at, count_at, coded_at, prefix_at, holder_at, update_at, reply_at}
use Rattle.failover_message.specs.Parsing.{greeting_at, contact_at}
use Rattle.failover_message.proofs.FieldLaws.{IsBytes, Takes, Takes-then, limited_takes, limited_again, coded_takes}
use Rattle.failover_message.proofs.FieldLaws.{coded_again}
use Rattle.failover_message.proofs.CodeLaws.{statuses, acknowledgements, roles}
use Rattle.failover_message.proofs.HolderLaws.{prefix_takes, prefix_again, holder_takes, holder_again}

-- ---- one field, and what is read behind it

coded_then : {A B : Type 0} (code_of : A → ℕ) (values : List A) (bytes : List ℕ) (f : A × List ℕ → Option B) (y : B)
    → IsBytes bytes → (coded_at code_of values bytes >>= f) ≡ Some y
    → (x : A × List ℕ) × Takes bytes (code_of x.0 ∷ []) x.1 × (f x ≡ Some y)
coded_then code_of values bytes f y fits e =
    let s = bind_some (coded_at code_of values bytes) f y e in
    (s.0, coded_takes code_of values bytes s.0 fits s.1, s.2)

prefix_then : {B : Type 0} (bytes : List ℕ) (f : Prefix × List ℕ → Option B) (y : B) → IsBytes bytes
    → (prefix_at bytes >>= f) ≡ Some y
    → (x : Prefix × List ℕ) × Takes bytes (prefix_octets x.0) x.1 × IsPrefix x.0 × (f x ≡ Some y)
prefix_then bytes f y fits e =
    let s = bind_some (prefix_at bytes) f y e in
    let t = prefix_takes bytes s.0 fits s.1 in
    (s.0, t.0, t.1, s.2)

pub limited_then : {B : Type 0} (limit : ℕ) (bytes : List ℕ) (f : ℕ × List ℕ → Option B) (y : B) → IsBytes bytes
    → (limited_at limit bytes >>= f) ≡ Some y
    → (x : ℕ × List ℕ) × Takes bytes (count_octets x.0) x.1 × (x.0 ≤ limit) × (f x ≡ Some y)
limited_then limit bytes f y fits e =
    let s = bind_some (limited_at limit bytes) f y e in
    let t = limited_takes limit bytes s.0 fits s.1 in
    (s.0, t.0, t.1, s.2)

pub count_again : (n : ℕ) (rest : List ℕ) → n ≤ 2 ^ 49 → count_at (count_octets n ++ rest) ≡ Some (n, rest)
count_again n rest le = limited_again (2 ^ 49) n rest le (omega arith)

-- ---- bodies

abbrev pub IsUpdateOf : List ℕ → Update × List ℕ → Type 0
IsUpdateOf bytes x = Takes bytes (update_octets x.0) x.1 × IsUpdate x.0

pub update_takes : (bytes : List ℕ) (x : Update × List ℕ) → IsBytes bytes → update_at bytes ≡ Some x
    → IsUpdateOf bytes x
unfolding update_at
update_takes bytes x fits e =
    let status = coded_then status_code STATUSES bytes _ x fits e in
    let prefix = prefix_then status.0.1 _ x status.1.fits status.2 in
    let mine = limited_then (2 ^ 49) prefix.0.1 _ x prefix.1.fits prefix.3 in
    let seen = limited_then (2 ^ 49) mine.0.1 _ x mine.1.fits mine.3 in
    let end = limited_then (latest_end status.0.0) seen.0.1 _ x seen.1.fits seen.3 in
    let holder = bind_some (holder_at (has_client status.0.0) end.0.1) _ x end.3 in
    let held = holder_takes (has_client status.0.0) end.0.1 holder.0 end.1.fits holder.1 in
    subst (IsUpdateOf bytes) (some_is _ _ holder.2) (
      Takes-then status.1 (Takes-then prefix.1 (Takes-then mine.1 (Takes-then seen.1 (Takes-then end.1 held.0)))),
      record { prefix = prefix.2; mine = mine.2; seen = seen.2; end = end.2; holder = held.1 },
    )

pub update_again : (u : Update) (rest : List ℕ) → IsUpdate u → update_at (update_octets u ++ rest) ≡ Some (u, rest)
unfolding update_at
update_again u rest h =
    let p = prefix_octets u.prefix in
    let m = count_octets u.mine in
    let s = count_octets u.seen in
    let n = count_octets u.end in
    let i = number_octets w32 u.iaid in
    let c = client_octets u.client in
    let regrouped : update_octets u ++ rest ≡ status_code u.status ∷ (p ++ (m ++ (s ++ (n ++ (i ++ (c ++ rest)))))) =
    ap (λ (w : List ℕ). status_code u.status ∷ w) (regroup p m s n i c rest) in
    ap update_at regrouped ∙ rw (
      coded_again status_code STATUSES statuses u.status (p ++ (m ++ (s ++ (n ++ (i ++ (c ++ rest)))))),
      prefix_again u.prefix (m ++ (s ++ (n ++ (i ++ (c ++ rest))))) h.prefix,
      count_again u.mine (s ++ (n ++ (i ++ (c ++ rest)))) h.mine,
      count_again u.seen (n ++ (i ++ (c ++ rest))) h.seen,
      limited_again (latest_end u.status) u.end (i ++ (c ++ rest)) h.end (omega (arith, h.end, end_fits u.status)),
      holder_again (has_client u.status) u.iaid u.client rest h.holder,
    ) refl
  where
    regroup : (p m s n i c rest : List ℕ) → (p ++ (m ++ (s ++ (n ++ (i ++ c))))) ++ rest ≡ p
        ++ (m ++ (s ++ (n ++ (i ++ (c ++ rest)))))
    regroup p m s n i c rest = simp append_assoc

abbrev pub IsReplyOf : List ℕ → BindReply × List ℕ → Type 0
IsReplyOf bytes x = Takes bytes (reply_octets x.0) x.1 × IsReply x.0

pub reply_takes : (bytes : List ℕ) (x : BindReply × List ℕ) → IsBytes bytes → reply_at bytes ≡ Some x
    → IsReplyOf bytes x
unfolding reply_at
reply_takes bytes x fits e =
    let acknowledgement = coded_then acknowledgement_code ACKNOWLEDGEMENTS bytes _ x fits e in
    let prefix = prefix_then acknowledgement.0.1 _ x acknowledgement.1.fits acknowledgement.2 in
    let of = limited_then (2 ^ 49) prefix.0.1 _ x prefix.1.fits prefix.3 in
    let mine = limited_then (2 ^ 49) of.0.1 _ x of.1.fits of.3 in
    let seen = limited_then (2 ^ 49) mine.0.1 _ x mine.1.fits mine.3 in
    subst (IsReplyOf bytes) (some_is _ _ seen.3) (
      Takes-then acknowledgement.1 (Takes-then prefix.1 (Takes-then of.1 (Takes-then mine.1 seen.1))),
      record { prefix = prefix.2; of = of.2; mine = mine.2; seen = seen.2 },
    )

pub reply_again : (r : BindReply) (rest : List ℕ) → IsReply r → reply_at (reply_octets r ++ rest) ≡ Some (r, rest)
unfolding reply_at
reply_again r rest h =
    let p = prefix_octets r.prefix in
    let o = count_octets r.of in
    let m = count_octets r.mine in
    let s = count_octets r.seen in
    let regrouped : reply_octets r ++ rest ≡ acknowledgement_code r.acknowledgement
    ∷ (p ++ (o ++ (m ++ (s ++ rest)))) = ap (λ (w : List ℕ). acknowledgement_code r.acknowledgement ∷ w)
    (regroup p o m s rest) in
    ap reply_at regrouped ∙ rw (
      coded_again acknowledgement_code ACKNOWLEDGEMENTS acknowledgements r.acknowledgement (p
          ++ (o ++ (m ++ (s ++ rest)))),
      prefix_again r.prefix (o ++ (m ++ (s ++ rest))) h.prefix,
      count_again r.of (m ++ (s ++ rest)) h.of,
      count_again r.mine (s ++ rest) h.mine,
      count_again r.seen rest h.seen,
    ) refl
  where
    regroup : (p o m s rest : List ℕ) → (p ++ (o ++ (m ++ s))) ++ rest ≡ p ++ (o ++ (m ++ (s ++ rest)))
    regroup p o m s rest = simp append_assoc

abbrev pub IsGreetingOf : List ℕ → (Role × ℕ) × List ℕ → Type 0
IsGreetingOf bytes x = Takes bytes (greeting_octets x.0.0 x.0.1) x.1 × (x.0.1 ≤ 2 ^ 49)

pub greeting_takes : (bytes : List ℕ) (x : (Role × ℕ) × List ℕ) → IsBytes bytes → greeting_at bytes ≡ Some x
    → IsGreetingOf bytes x
unfolding greeting_at
greeting_takes bytes x fits e =
    let role = coded_then role_code ROLES bytes _ x fits e in
    let last = limited_then (2 ^ 49) role.0.1 _ x role.1.fits role.2 in
    subst (IsGreetingOf bytes) (some_is _ _ last.3) (Takes-then role.1 last.1, last.2)

pub greeting_again : (role : Role) (last : ℕ) (rest : List ℕ) → last ≤ 2 ^ 49
    → greeting_at (greeting_octets role last ++ rest) ≡ Some ((role, last), rest)
unfolding greeting_at
greeting_again role last rest le = rw (
  coded_again role_code ROLES roles role (count_octets last ++ rest),
  count_again last rest le,
) refl

abbrev pub IsContactOf : List ℕ → (ℕ × ℕ) × List ℕ → Type 0
IsContactOf bytes x = Takes bytes (count_octets x.0.0 ++ count_octets x.0.1) x.1 × (x.0.0 ≤ 2 ^ 49) × (x.0.1 ≤ 2 ^ 49)

pub contact_takes : (bytes : List ℕ) (x : (ℕ × ℕ) × List ℕ) → IsBytes bytes → contact_at bytes ≡ Some x
    → IsContactOf bytes x
unfolding contact_at
contact_takes bytes x fits e =
    let ask = limited_then (2 ^ 49) bytes _ x fits e in
    let answer = limited_then (2 ^ 49) ask.0.1 _ x ask.1.fits ask.3 in
    subst (IsContactOf bytes) (some_is _ _ answer.3) (Takes-then ask.1 answer.1, ask.2, answer.2)

pub contact_again : (ask answer : ℕ) (rest : List ℕ) → ask ≤ 2 ^ 49 → answer ≤ 2 ^ 49
    → contact_at ((count_octets ask ++ count_octets answer) ++ rest) ≡ Some ((ask, answer), rest)
unfolding contact_at
contact_again ask answer rest a b = ap contact_at (append_assoc (count_octets ask) (count_octets answer) rest)
    ∙ rw (count_again ask (count_octets answer ++ rest) a, count_again answer rest b) refl
