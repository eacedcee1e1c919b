-- What a source gives, line by line.
use Rattle.std.specs.Prelude.{◌≡◌, List, [], ◌∷◌, Option, MatchOption, Contains as Has}
use Rattle.causal_order.specs.declared.reference.Ref.{Ref}
use Rattle.causal_order.specs.Journals.{Journals}
use Rattle.attribution.specs.declared.delegation.Delegation.{Delegation}
use Rattle.attribution.specs.Acceptance.{GivesBack}

-- the first of what a walk had yet to give, and what it has yet to give then; or it had given all
abbrev pub YieldsNext : Option Ref → (before after : List Ref) → Type 0
YieldsNext given before after = MatchOption given (before ≡ []) (λ r. before ≡ r ∷ after)

-- exactly the lines of both journals that give the delegation back
pub record AreReleases (js : Journals) (d : Delegation) (refs : List Ref) : Type 0 where
  pub all : (r : Ref) → GivesBack js r d → Has refs r
  pub only : (r : Ref) → Has refs r → GivesBack js r d
