-- The IA_PDs of an answer, one by one.
use Rattle.std.proofs.Common.{◌≡◌, ℕ, ◌+◌, ◌<◌, ◌≤◌, List, [], ◌∷◌, ◌++◌, length, drop, drop-cons, get_or, ap, ap₂, sym}
use Rattle.std.proofs.Common.{◌∙◌, refl, Option, Some, None, add-one, append_assoc}
use Rattle.std.specs.Prelude.{suc, Bool}
use Rattle.std.proofs.lemmas.List.{drop_all, append-nil}
use Rattle.dhcp6_pd.specs.declared.message.IaPd.{IaPd}
use Rattle.dhcp6_pd.specs.declared.message.IaReply.{IaReply}
use Rattle.dhcp6_pd.specs.declared.message.IaReplyAnswer.{IaReplyAnswer}
use Rattle.server_book.specs.declared.messages.IaAnswer.{IaAnswer}
use Rattle.server_book.specs.Messages.{written_of, and_reply, further_of, at_first, replies_of}

behind_reply : (iaid : ℕ) (o : Option IaReplyAnswer) (rs : List IaReply)
    → and_reply iaid o rs ≡ and_reply iaid o [] ++ rs
behind_reply iaid None rs = refl
behind_reply iaid (Some a) rs = refl

-- what is told of the IA_PD at a place
abbrev pub told_at : List IaPd → List IaAnswer → ℕ → IaPd → IaAnswer → IaAnswer
told_at ias answers i ia a = at_first ia.part a (further_of (drop (i + 1) ias) (drop (i + 1) answers))

pub reply_further : (hidden : Bool) (ias : List IaPd) (answers : List IaAnswer) (i : ℕ) (ia : IaPd) (a told : IaAnswer)
    (done : List IaReply) (all : List IaReply) → i < length ias → i < length answers
    → ia ≡ get_or ias i ia → a ≡ get_or answers i a → told ≡ told_at ias answers i ia a
    → done ++ replies_of hidden (drop i ias) (drop i answers) ≡ all
    → (done ++ and_reply ia.iaid (written_of hidden told) []) ++ replies_of hidden (drop (i + 1) ias) (drop (i + 1) answers) ≡ all
reply_further hidden ias answers i ia a told done all lt la is at is_told so =
    let one : drop i ias ≡ ia ∷ drop (i + 1) ias =
    rw (add-one, drop-cons ias i ia) (ap (λ (x : IaPd). x ∷ drop (suc i) ias) (sym is)) in
    let two : drop i answers ≡ a ∷ drop (i + 1) answers =
    rw (add-one, drop-cons answers i a) (ap (λ (x : IaAnswer). x ∷ drop (suc i) answers) (sym at)) in
    let rest = replies_of hidden (drop (i + 1) ias) (drop (i + 1) answers) in
    let first : replies_of hidden (drop i ias) (drop i answers) ≡ and_reply ia.iaid (written_of hidden told) [] ++ rest =
    ap₂ (replies_of hidden) one two
    ∙ (ap (λ (x : IaAnswer). and_reply ia.iaid (written_of hidden x) rest) (sym is_told)
    ∙ behind_reply ia.iaid (written_of hidden told) rest) in
    append_assoc done (and_reply ia.iaid (written_of hidden told) []) rest
    ∙ (ap (λ (rs : List IaReply). done ++ rs) (sym first) ∙ so)

pub replies_end : (hidden : Bool) (ias : List IaPd) (answers : List IaAnswer) (i : ℕ) (done all : List IaReply) → length ias ≤ i
    → done ++ replies_of hidden (drop i ias) (drop i answers) ≡ all → done ≡ all
replies_end hidden ias answers i done all le so =
    let none : replies_of hidden (drop i ias) (drop i answers) ≡ [] =
    ap (λ (xs : List IaPd). replies_of hidden xs (drop i answers)) (drop_all i ias le) in
    sym (append-nil done) ∙ (ap (λ (rs : List IaReply). done ++ rs) (sym none) ∙ so)
