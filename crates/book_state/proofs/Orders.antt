-- Octets in their order.
use Rattle.std.proofs.Common.{◌≡◌, ℕ, ◌<◌, true, List, ap, sym, ◌∙◌, subst, inl, inr}
use Rattle.std.specs.declared.cmp.Ordering.TheVariants.{Equal, Greater}
use Rattle.std.specs.Ordering.{nat_cmp, is_eq}
use Rattle.std.specs.Cmp.Lexicographic.{slice_cmp}
use Rattle.std.specs.Str.{bytes_eq}
use Rattle.std.proofs.lemmas.Map.Text.{is_eq-slice_cmp}
use Rattle.std.proofs.lemmas.Slice.Eq.{bytes_eq-Decides}
use Rattle.std.proofs.lemmas.Cmp.{nat_list_cmp_total, tied_itself}
use Rattle.journal_lines.specs.declared.kept.Carried.{Carried}
use Rattle.book_state.specs.HeadOrder.{IsHolderBefore}

pub same_octets : (xs ys : List ℕ) → slice_cmp nat_cmp xs ys ≡ Equal → xs ≡ ys
same_octets xs ys e = let t : bytes_eq xs ys ≡ true = sym (is_eq-slice_cmp xs ys) ∙ ap is_eq e in
    (bytes_eq-Decides xs ys).0 t

-- of one client the identity associations decide
pub same_client : (c d : Carried) → slice_cmp nat_cmp c.client d.client ≡ Equal
    → (c.iaid < d.iaid → IsHolderBefore c d) × (IsHolderBefore c d → c.iaid < d.iaid)
same_client c d e = (
  λ lt. inr (same_octets c.client d.client e, lt),
  λ h. (elim h [ inl less ↦ absurd (cc) | inr same ↦ same.1 ]),
)

pub last_behind : (c d : Carried) → slice_cmp nat_cmp c.client d.client ≡ Greater → IsHolderBefore c d → ⊥
last_behind c d e (inl less) = absurd (cc)
last_behind c d e (inr same) =
    let itself : slice_cmp nat_cmp c.client c.client ≡ Equal = tied_itself nat_list_cmp_total c.client in
    let e2 : slice_cmp nat_cmp c.client c.client ≡ Greater =
    subst (λ (o : List ℕ). slice_cmp nat_cmp c.client o ≡ Greater) (sym same.0) e in
    absurd (cc)
