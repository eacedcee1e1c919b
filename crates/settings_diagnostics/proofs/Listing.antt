-- The complaints about some wishes, and about one more.
use Rattle.std.proofs.Common.{inl, inr, ℕ, ◌+◌, ◌<◌, List, [], ◌∷◌, ◌++◌, length, take, get_or, refl, sym, ap, subst}
use Rattle.std.proofs.lemmas.List.{take_more}
use Rattle.toml.specs.Data.{Members}
use Rattle.settings_diagnostics.specs.declared.key_diagnostic.KeyTable.{KeyTable}
use Rattle.settings_diagnostics.specs.declared.key_diagnostic.KeyDiagnostic.{KeyDiagnostic}
use Rattle.settings_diagnostics.specs.declared.key_rule.KeyRule.{KeyRule}
use Rattle.settings_diagnostics.specs.KeyRules.{IsMet, IsDiagnostic, AreDiagnostics}

module _ (m : Members) (place : KeyTable) where
  pub one_met : (ws : List KeyRule) (w : KeyRule) (all : List KeyDiagnostic) → AreDiagnostics m place ws all → IsMet m w
      → AreDiagnostics m place (ws ++ w ∷ []) all
  one_met [] w all are met = inl (met, are)
  one_met (v ∷ ws) w all (inl fit) met = inl (fit.0, one_met ws w all fit.1 met)
  one_met (v ∷ ws) w all (inr some) met = inr (some.0, some.1, some.2, some.3, one_met ws w some.1 some.4 met)

  pub one_more : (ws : List KeyRule) (w : KeyRule) (all : List KeyDiagnostic) (c : KeyDiagnostic) → AreDiagnostics m place ws all
      → IsDiagnostic m place w c → AreDiagnostics m place (ws ++ w ∷ []) (all ++ c ∷ [])
  one_more [] w all c are about = inr (c, [], ap (λ (l : List KeyDiagnostic). l ++ c ∷ []) are, about, refl)
  one_more (v ∷ ws) w all c (inl fit) about = inl (fit.0, one_more ws w all c fit.1 about)
  one_more (v ∷ ws) w all c (inr some) about =
      inr (
        some.0,
        some.1 ++ c ∷ [],
        ap (λ (l : List KeyDiagnostic). l ++ c ∷ []) some.2,
        some.3,
        one_more ws w some.1 c some.4 about,
      )

  -- the same of the first wishes of all
  pub next_met : (ws : List KeyRule) (i : ℕ) (w : KeyRule) (all : List KeyDiagnostic) → i < length ws
      → AreDiagnostics m place (take i ws) all
      → IsMet m (get_or ws i w) → AreDiagnostics m place (take (i + 1) ws) all
  next_met ws i w all lt are met =
      subst (λ (l : List KeyRule). AreDiagnostics m place l all) (sym (take_more ws i w lt))
      (one_met (take i ws) (get_or ws i w) all are met)

  pub next_more : (ws : List KeyRule) (i : ℕ) (w : KeyRule) (all : List KeyDiagnostic) (c : KeyDiagnostic) → i < length ws
      → AreDiagnostics m place (take i ws) all
      → IsDiagnostic m place (get_or ws i w) c → AreDiagnostics m place (take (i + 1) ws) (all ++ c ∷ [])
  next_more ws i w all c lt are about =
      subst (λ (l : List KeyRule). AreDiagnostics m place l (all ++ c ∷ [])) (sym (take_more ws i w lt))
      (one_more (take i ws) (get_or ws i w) all c are about)
