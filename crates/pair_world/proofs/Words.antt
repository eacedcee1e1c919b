-- A world's statuses and words in plain numbers, and which words a change of a unit makes.
use Rattle.std.specs.Prelude.{◌≡◌, ℕ, ◌≤◌, ◌⊎◌, Bool, true, false, ◌==◌, List, ◌∷◌, Some, None}
use Rattle.std.specs.Str.{bytes_eq}
use Rattle.std.proofs.Common.{arith, inl, inr, refl, sym, ◌∙◌, ap, subst}
use Rattle.std.proofs.lemmas.Bool.{and_parts, and_from, eq-eqb, eqb-true}
use Rattle.std.proofs.lemmas.Slice.Eq.{bytes_eq-Decides}
use Rattle.pair_world.specs.Kept.{IsActiveOf}
use Rattle.pair_world.specs.Said.{Answer, Says, SaysEnd, SaysMark, Word, active_code, binding_of, bound, code, is_mark}
use Rattle.pair_world.specs.Said.{word_code_by}
use Rattle.binding_rules.specs.declared.update.Status.TheVariants.{Active as ActiveDue, Backup as BackupDue}
use Rattle.binding_rules.specs.declared.update.Status.TheVariants.{Expired as ExpiredDue, Free as FreeDue}
use Rattle.binding_rules.specs.declared.update.Status.TheVariants.{Released as ReleasedDue, Seized as SeizedDue}
use Rattle.binding_rules.specs.declared.update.BindReply.{BindReply}
use Rattle.binding_rules.specs.declared.unit.Binding.{Binding}
use Rattle.pair_world.specs.UnitWorld.{Server}
use Rattle.binding_rules.specs.declared.update.Acknowledgement.{Acknowledgement}
use Rattle.binding_rules.specs.declared.update.Acknowledgement.TheVariants.{Reject as RejectReply}
use Rattle.binding_rules.specs.declared.update.Status.{Status}
use Rattle.binding_rules.specs.declared.unit.UnitStatus.{UnitStatus}
use Rattle.binding_rules.specs.declared.unit.Unit.{Unit as UnitValue}
use Rattle.binding_rules.specs.declared.update.Update.{Update}
use Rattle.binding_rules.specs.Table.{answered}
use Rattle.book_rules.specs.MessageRules.{TellsUnit, due_update}
use Rattle.binding_rules.specs.Reply.{is_accept}
use Rattle.binding_rules.specs.Unit.{same_binding}
use Rattle.pair_world.proofs.Phases.{Old, OldReply}

pub code_low : (t : Bool) → 2 ≤ active_code t
code_low true = omega arith
code_low false = omega arith

pub code_high : (t : Bool) → active_code t ≤ 3
code_high true = omega arith
code_high false = omega arith

pub same_is : (x y : Binding) → same_binding x y ≡ true → x ≡ y
same_is x y h =
    let p = and_parts (bytes_eq x.client y.client) (x.iaid == y.iaid) h in
    let c : x.client ≡ y.client = (bytes_eq-Decides x.client y.client).0 p.0 in
    let i : x.iaid ≡ y.iaid = eqb-true x.iaid y.iaid p.1 in
    let make : List ℕ → ℕ → Binding = λ client iaid. record { client = client; iaid = iaid } in
    ap (λ z. make z x.iaid) c ∙ ap (λ z. make y.client z) i

pub same_refl : (x : Binding) → same_binding x x ≡ true
same_refl x = and_from (bytes_eq x.client x.client) (x.iaid == x.iaid) ((bytes_eq-Decides x.client x.client).1 refl)
    (eq-eqb x.iaid x.iaid refl)

pub code_is : (j k : Binding) (t : Bool) → same_binding j k ≡ t → active_code t ≡ 2 → j ≡ k
code_is j k true e h = same_is j k e
code_is j k false e h = absurd (omega arith)

pub code_active : (k : Binding) (status : UnitStatus) → IsActiveOf status k → code k status ≡ 2
code_active k status h = rw h (rw (same_refl k) refl)

-- a change that leaves something due makes one word
pub new_word : (k : Binding) (x : Server) (u' : UnitValue) (c0 : ℕ)
    → ((d : Status) → u'.due ≡ Some d → word_code_by d k (bound u'.status) ≡ c0)
    → (c m n : ℕ) → Word k (record x { unit = u' }) c m n → Old (Word k x) c m n c0 u'.mine u'.seen
new_word k x u' c0 codes c m n (u, inl sent, ec, em, en) = inl (u, inl sent, ec, em, en)
new_word k x u' c0 codes c m n (u, inr due, ec, em, en) =
    let h = codes u.status due.1 in
    let e : word_code_by u.status k (binding_of u) ≡ word_code_by u.status k (bound u'.status) =
    ap (λ (v : Update). word_code_by u.status k (binding_of v)) due.2 in
    let m' : u.mine ≡ u'.mine = ap (λ (v : Update). v.mine) due.2 in
    let n' : u.seen ≡ u'.seen = ap (λ (v : Update). v.seen) due.2 in
    inr (cc, cc, cc)

pub new_word_at : (k : Binding) (x : Server) (u' : UnitValue) (c0 : ℕ) (d0 : Status) → u'.due ≡ Some d0
    → word_code_by d0 k (bound u'.status) ≡ c0
    → (c m n : ℕ) → Word k (record x { unit = u' }) c m n → Old (Word k x) c m n c0 u'.mine u'.seen
new_word_at k x u' c0 d0 is e = new_word k x u' c0 (λ d due. let same : d0 ≡ d = cc in
    subst (λ z. word_code_by z k (bound u'.status) ≡ c0) same e)

-- its end is the one that the partner is told
pub new_end : (x : Server) (u' : UnitValue) (m e : ℕ) → SaysEnd (record x { unit = u' }) m e
    → OldReply (SaysEnd x) m e u'.mine u'.out_end
new_end x u' m e (u, inl sent, is, em, ee) = inl (u, inl sent, is, em, ee)
new_end x u' m e (u, inr due, is, em, ee) =
    let m' : u.mine ≡ u'.mine = ap (λ (v : Update). v.mine) due.2 in
    let e' : u.end ≡ u'.out_end = ap (λ (v : Update). v.end) due.2 ∙ ap (λ z. (due_update u.prefix u' z).end) is in
    inr (cc, cc)

-- where nothing is due, or the unit is marked, there is no new word
abbrev IsSilent : UnitValue → Type 0
IsSilent u = (u.due ≡ None) ⊎ (u.marked ≡ true)

silent : (u : UnitValue) (d : Status) → IsSilent u → u.marked ≡ false → u.due ≡ Some d → ⊥
silent u d (inl none) open' due = absurd (cc)
silent u d (inr marked) open' due = absurd (cc)

pub no_word : (k : Binding) (x : Server) (u' : UnitValue) → IsSilent u'
    → (c m n : ℕ) → Word k (record x { unit = u' }) c m n → Word k x c m n
no_word k x u' none c m n (u, inl sent, ec, em, en) = (u, inl sent, ec, em, en)
no_word k x u' none c m n (u, inr due, ec, em, en) = absurd (silent u' u.status none due.0 due.1)

pub no_end : (x : Server) (u' : UnitValue) → (u'.marked ≡ false → u'.due ≡ Some ActiveDue → ⊥)
    → (m e : ℕ) → SaysEnd (record x { unit = u' }) m e → SaysEnd x m e
no_end x u' none m e (u, inl sent, is, em, ee) = (u, inl sent, is, em, ee)
no_end x u' none m e (u, inr due, is, em, ee) = absurd (none due.0 (due.1 ∙ ap (λ (z : Status). Some z) is))

pub no_end_silent : (x : Server) (u' : UnitValue) → IsSilent u' → (m e : ℕ) → SaysEnd (record x { unit = u' }) m e
    → SaysEnd x m e
no_end_silent x u' none = no_end x u' (λ open' due. silent u' ActiveDue none open' due)

pub new_answer : (x : Server) (u' : UnitValue) (r0 : BindReply) → u'.pending ≡ Some r0
    → (p o : ℕ) → Answer (record x { unit = u' }) p o → OldReply (Answer x) p o r0.mine r0.of
new_answer x u' r0 is p o (r, (good, inl sent), ep, eo) = inl (r, (good, inl sent), ep, eo)
new_answer x u' r0 is p o (r, (good, inr due), ep, eo) = let same : r0 ≡ r = cc in inr (cc, cc)

pub same_marks : (x : Server) (u' : UnitValue) → u'.marked ≡ false → (m : ℕ) → SaysMark (record x { unit = u' }) m
    → SaysMark x m
same_marks x u' open' m (inl sent) = inl sent
same_marks x u' open' m (inr marked) = let z = marked.0 in absurd (cc)

pub new_mark : (x : Server) (u' : UnitValue) (m : ℕ) → SaysMark (record x { unit = u' }) m
    → SaysMark x m ⊎ (m ≡ u'.mine)
new_mark x u' m (inl sent) = inl (inl sent)
new_mark x u' m (inr marked) = inr (sym marked.1)

-- What a server sends it could say before.
pub says_sent : (x : Server) (u : Update) → TellsUnit x.unit u → (v : Update)
    → Says (record x { updates = u ∷ x.updates }) v → Says x v
says_sent x u (inl t) v (inl (inl same, plain)) =
    inr (
      t.0,
      t.1 ∙ ap (λ (z : Update). Some z.status) same,
      sym same
          ∙ (t.2 ∙ ap (λ (z : Update). due_update z.prefix x.unit z.status) same),
    )
says_sent x u (inr t) v (inl (inl same, plain)) = let marked : is_mark u.status ≡ true =
    ap (λ (z : Update). is_mark z.status) t.1 in let z : is_mark u.status ≡ is_mark v.status =
    ap (λ (z : Update). is_mark z.status) same in absurd (cc)
says_sent x u t v (inl (inr sent, plain)) = inl (sent, plain)
says_sent x u t v (inr due) = inr due

pub word_sent : (k : Binding) (x : Server) (u : Update) → TellsUnit x.unit u
    → (c m n : ℕ) → Word k (record x { updates = u ∷ x.updates }) c m n → Word k x c m n
word_sent k x u t c m n w = (w.0, says_sent x u t w.0 w.1, w.2, w.3, w.4)

pub end_sent : (x : Server) (u : Update) → TellsUnit x.unit u → (m e : ℕ)
    → SaysEnd (record x { updates = u ∷ x.updates }) m e → SaysEnd x m e
end_sent x u t m e w = (w.0, says_sent x u t w.0 w.1, w.2, w.3, w.4)

pub is_mark_only : (status : Status) → is_mark status ≡ true → status ≡ SeizedDue
is_mark_only SeizedDue h = refl
is_mark_only ActiveDue h = absurd (cc)
is_mark_only ExpiredDue h = absurd (cc)
is_mark_only ReleasedDue h = absurd (cc)
is_mark_only BackupDue h = absurd (cc)
is_mark_only FreeDue h = absurd (cc)

pub mark_sent : (x : Server) (u : Update) → TellsUnit x.unit u → (x.unit.due ≡ Some SeizedDue → ⊥)
    → (m : ℕ) → SaysMark (record x { updates = u ∷ x.updates }) m → SaysMark x m
mark_sent x u (inl t) plain m (inl (v, inl same, is, em)) =
    absurd (plain (t.1 ∙ ap (λ z. Some z) (is_mark_only u.status (ap (λ (z : Update). is_mark z.status) same ∙ is))))
mark_sent x u (inr t) plain m (inl (v, inl same, is, em)) =
    inr (t.0, sym (ap (λ (z : Update). z.mine) t.1) ∙ (ap (λ (z : Update). z.mine) same ∙ em))
mark_sent x u t plain m (inl (v, inr sent, is, em)) = inl (v, sent, is, em)
mark_sent x u t plain m (inr now) = inr now

pub answer_sent : (x : Server) (r : BindReply) → x.unit.pending ≡ Some r → (p o : ℕ)
    → Answer (record x { unit = record x.unit { pending = None }; replies = r ∷ x.replies }) p o → Answer x p o
answer_sent x r is p o (z, (good, inl (inl same)), ep, eo) =
    (z, (good, inr (is ∙ ap (λ (y : BindReply). Some y) same)), ep, eo)
answer_sent x r is p o (z, (good, inl (inr sent)), ep, eo) = (z, (good, inl sent), ep, eo)
answer_sent x r is p o (z, (good, inr now), ep, eo) = absurd (cc)

abbrev reply_to : UnitValue → Update → Acknowledgement → BindReply
reply_to u m how = record { acknowledgement = how; prefix = m.prefix; of = m.mine; mine = u.mine; seen = u.seen }

-- an answer that isn't accepting is no word
pub answer_reject : (x : Server) (v : Update) → (p o : ℕ)
    → Answer (record x { unit = answered x.unit v RejectReply }) p o → Answer x p o
answer_reject x v p o (r, (good, inl sent), ep, eo) = (r, (good, inl sent), ep, eo)
answer_reject x v p o (r, (good, inr due), ep, eo) =
    let same : reply_to x.unit v RejectReply ≡ r = cc in
    let bad : is_accept r.acknowledgement ≡ false = ap (λ (y : BindReply). is_accept y.acknowledgement) (sym same) in
    absurd (cc)
