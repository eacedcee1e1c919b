-- What the first line feed of a text tells of the answer that it is.
use Rattle.std.specs.Prelude.{◌≡◌, ◌≢◌, ℕ, ◌<◌, List, ◌∷◌, ◌++◌, length, get_or, Option, Some, None, MatchOption}
use Rattle.std.specs.Borrow.{Bor}
use Rattle.std.proofs.Common.{subst, arith}
use Rattle.std.proofs.lemmas.Str.Pattern.{IsSplitOnceResult, split_after, split_parts}
use Rattle.server_status.specs.declared.control_reply.ControlVerdict.{ControlVerdict}
use Rattle.server_status.specs.declared.control_reply.ControlReply.{ControlReply}
use Rattle.server_status.specs.Words.{verdict_words, IsOneLine, IsControlReply}

abbrev Parts : Type 0
Parts = Bor (List ℕ) × Bor (List ℕ)

-- without a line feed there is no answer
pub no_line : (words : List ℕ) (r : Option Parts) → IsSplitOnceResult 10 words r → r ≡ None
    → (a : ControlReply) → IsControlReply words a → ⊥
no_line words r split none a is =
    subst (λ (r : Option Parts). MatchOption r ⊥ (λ x. (x.0.now ≡ verdict_words a.verdict) × (x.1.now ≡ a.text.now))) none
    (split_after 10 words (verdict_words a.verdict) a.text.now r split (omega arith) is.0 is.1)

-- where the first line is no verdict, there is no answer
pub no_verdict : (words : List ℕ) (r : Option Parts) → IsSplitOnceResult 10 words r
    → (line text : Bor (List ℕ)) → r ≡ Some (line, text) → ((v : ControlVerdict) → line.now ≡ verdict_words v → ⊥)
    → (a : ControlReply) → IsControlReply words a → ⊥
no_verdict words r split line text some none a is =
    none a.verdict (subst (λ (r : Option Parts). MatchOption r ⊥
    (λ x. (x.0.now ≡ verdict_words a.verdict) × (x.1.now ≡ a.text.now))) some
    (split_after 10 words (verdict_words a.verdict) a.text.now r split (omega arith) is.0 is.1)).0

-- and where it is one, there is this answer
pub with_verdict : (words : List ℕ) (r : Option Parts) → IsSplitOnceResult 10 words r
    → (line text : Bor (List ℕ)) → r ≡ Some (line, text) → (v : ControlVerdict) → line.now ≡ verdict_words v
    → IsControlReply words (record { verdict = v; text = text })
with_verdict words r split line text some v is =
    let parts = subst (λ (r : Option Parts). MatchOption r ((i : ℕ) → i < length words → get_or words i 0 ≢ 10)
    (λ x. (words ≡ x.0.now ++ (10 ∷ x.1.now)) × IsOneLine x.0.now)) some (split_parts 10 words r split (omega arith)) in
    subst (λ (line : List ℕ). (words ≡ line ++ (10 ∷ text.now)) × IsOneLine line) is parts
