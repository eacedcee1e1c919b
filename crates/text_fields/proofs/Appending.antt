-- What is appended to a text in two steps.
use Rattle.std.proofs.Common.{◌≡◌, ℕ, List, ◌++◌, Result, Ok, Err, sym, ap, ◌∙◌, append_assoc}
use Rattle.std.specs.Prelude.{OnOk}

-- what is appended to what was appended
pub pushed : {E : Type 0} (r : Result Unit E) (old mid new first last text : List ℕ) → OnOk r (new ≡ mid ++ last)
    → mid ≡ old ++ first → text ≡ first ++ last → OnOk r (new ≡ old ++ text)
pushed (Ok x) old mid new first last text h m t =
    h ∙ (ap (λ (l : List ℕ). l ++ last) m ∙ (append_assoc old first last ∙ ap (λ (l : List ℕ). old ++ l) (sym t)))
pushed (Err e) old mid new first last text h m t = tt
