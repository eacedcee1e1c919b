-- A chain, walked from its front.
use Rattle.std.specs.Prelude.{◌≡◌, ℕ, ◌+◌, ◌-◌, ◌<◌, ◌≤◌, Bool, true, false, ◌&&◌, ◌↔◌, IsTrue, List, [], ◌∷◌, length}
use Rattle.std.specs.Prelude.{drop, Option, Some, None, option_map, slice_get, ℤ, pos, ◌+ℤ◌}
use Rattle.std.proofs.Common.{sym, ◌∙◌, ap, subst, refl, arith, get_or, add-one, suc}
use Rattle.std.proofs.lemmas.List.{drop_all}
use Rattle.std.proofs.Math.Seq.{drop-cons}
use Rattle.std.proofs.lemmas.Bool.{and_left, and_right}
use Rattle.journal_lines.specs.declared.line.Line.{Line}
use Rattle.causal_order.specs.declared.reference.Ref.{Ref}
use Rattle.causal_order.specs.Journals.{Journals, Names, line_of}
use Rattle.causal_order.specs.Order.{IsChain, WrittenBy, WrittenFrom}
use Rattle.causal_order.specs.Tests.{is_line, follows, is_chain, first_of_chain, last_of_chain}
use Rattle.causal_order.specs.Bounds.{reading_of, IsLatest, IsEarliest}
use Rattle.causal_order.proofs.Deciding.{decides_chain, names_line, line_names, leads_from, ends_last}

-- what is left of the chain, from its i-th link on, decides it
pub record IsLeft (js : Journals) (chain : List Ref) (last : Ref) (rest : List Ref) (i : ℕ) : Type 0 where
  pub same : is_chain js chain ≡ is_chain js (last ∷ drop i rest)

module _ (js : Journals) (chain rest : List Ref) (last d : Ref) (i : ℕ) (lt : i < length rest)
    (h : IsLeft js chain last rest i) where
  next_link : is_chain js chain ≡ (is_line js last
      && (follows js last (get_or rest i d) && is_chain js (get_or rest i d ∷ drop (i + 1) rest)))
  next_link =
      let step : drop i rest ≡ get_or rest i d ∷ drop (i + 1) rest =
      drop-cons rest i d lt ∙ ap (λ (n : ℕ). get_or rest i d ∷ drop n rest) (sym (add-one i)) in
      h.same ∙ ap (λ (rs : List Ref). is_chain js (last ∷ rs)) step

  pub breaks_at_line : is_line js last ≡ false → is_chain js chain ≡ false
  breaks_at_line e = next_link ∙ and_left _ _ e

  pub breaks_at_link : follows js last (get_or rest i d) ≡ false → is_chain js chain ≡ false
  breaks_at_link e = next_link ∙ and_right _ _ (and_left _ _ e)

  pub goes_on : is_line js last ≡ true → follows js last (get_or rest i d) ≡ true
      → IsLeft js chain (get_or rest i d) rest (i + 1)
  goes_on a b = record {
    same = next_link
        ∙ (ap (λ (x : Bool). x && (follows js last (get_or rest i d)
        && is_chain js (get_or rest i d ∷ drop (i + 1) rest))) a
        ∙ ap (λ (x : Bool). x && is_chain js (get_or rest i d ∷ drop (i + 1) rest)) b);
  }

pub ends : (js : Journals) (chain rest : List Ref) (last : Ref) (i : ℕ) → length rest ≤ i → IsLeft js chain last rest i
    → is_chain js chain ≡ is_line js last
ends js chain rest last i le h = h.same ∙ ap (λ (rs : List Ref). is_chain js (last ∷ rs)) (drop_all i rest le)

pub chain_decided : (js : Journals) (chain : List Ref) (b : Bool) → b ≡ is_chain js chain → IsTrue b ↔ IsChain js chain
chain_decided js chain b e = let d = decides_chain js chain in (λ h. d.0 (sym e ∙ h), λ h. e ∙ d.1 h)

-- ---- a chain's ends

pub first_is : (chain : List Ref) → slice_get chain 0 ≡ first_of_chain chain
first_is [] = refl
first_is (r ∷ rs) = refl

pub last_is : (chain : List Ref) → slice_get chain (length chain - 1) ≡ last_of_chain chain
last_is [] = refl
last_is (r ∷ []) = refl
last_is (r ∷ s ∷ rs) =
    let n : length (r ∷ s ∷ rs) - 1 ≡ suc (length (s ∷ rs) - 1) = omega arith in
    ap (slice_get (r ∷ s ∷ rs)) n ∙ last_is (s ∷ rs)

pub chain_begins : (js : Journals) (chain : List Ref) → IsChain js chain → first_of_chain chain ≡ None → ⊥
chain_begins js [] c e = c
chain_begins js (r ∷ rs) c e = cc

pub chain_ends : (js : Journals) (chain : List Ref) → IsChain js chain → last_of_chain chain ≡ None → ⊥
chain_ends js [] c e = c
chain_ends js (r ∷ []) c e = cc
chain_ends js (r ∷ s ∷ rs) c e = chain_ends js (s ∷ rs) c.2 e

begin_named : (js : Journals) (chain : List Ref) (r : Ref) → IsChain js chain → first_of_chain chain ≡ Some r
    → (l : Line) × Names js r l
begin_named js [] r c e = absurd c
begin_named js (s ∷ []) r c e = let same : s ≡ r = cc in subst (λ (x : Ref). (l : Line) × Names js x l) same c
begin_named js (s ∷ t ∷ ts) r c e = let same : s ≡ r = cc in subst (λ (x : Ref). (l : Line) × Names js x l) same c.0

end_named : (js : Journals) (chain : List Ref) (r : Ref) → IsChain js chain → last_of_chain chain ≡ Some r
    → (l : Line) × Names js r l
end_named js [] r c e = absurd c
end_named js (s ∷ []) r c e = let same : s ≡ r = cc in subst (λ (x : Ref). (l : Line) × Names js x l) same c
end_named js (s ∷ t ∷ ts) r c e = end_named js (t ∷ ts) r c.2 e

named_is_read : (js : Journals) (r : Ref) → ((l : Line) × Names js r l) → reading_of js r ≡ None → ⊥
named_is_read js r n e = let x : reading_of js r ≡ Some n.0.reading =
    ap (option_map (λ (l : Line). l.reading)) (names_line js r n.0 n.1) in cc

pub begin_is_read : (js : Journals) (chain : List Ref) (r : Ref) → IsChain js chain → first_of_chain chain ≡ Some r
    → reading_of js r ≡ None → ⊥
begin_is_read js chain r c e = named_is_read js r (begin_named js chain r c e)

pub end_is_read : (js : Journals) (chain : List Ref) (r : Ref) → IsChain js chain → last_of_chain chain ≡ Some r
    → reading_of js r ≡ None → ⊥
end_is_read js chain r c e = named_is_read js r (end_named js chain r c e)

read_line : (o : Option Line) (x : ℕ) → option_map (λ (l : Line). l.reading) o ≡ Some x
    → (l : Line) × (o ≡ Some l) × (l.reading ≡ x)
read_line None x e = absurd (cc)
read_line (Some l) x e = (l, refl, cc)

begun : (js : Journals) (chain : List Ref) → IsChain js chain → (r : Ref) × (first_of_chain chain ≡ Some r)
begun js [] c = absurd c
begun js (r ∷ rs) c = (r, refl)

ended : (js : Journals) (chain : List Ref) → IsChain js chain → (r : Ref) × (last_of_chain chain ≡ Some r)
ended js [] c = absurd c
ended js (r ∷ []) c = (r, refl)
ended js (r ∷ s ∷ rs) c = ended js (s ∷ rs) c.2

pub some_latest : (js : Journals) (chain : List Ref) (end : Ref) (skew x : ℕ) (m : ℤ) → IsChain js chain
    → last_of_chain chain ≡ Some end → reading_of js end ≡ Some x
    → m ≡ pos (x + skew) → IsLatest js chain skew (Some m)
some_latest js chain end skew x m c e read is =
    let b = begun js chain c in
    let l = read_line (line_of js end) x read in (
      b.0,
      x,
      record {
        end = end;
        line = l.0;
        leads = leads_from js chain b.0 end c b.1 e;
        names =
            line_names js end l.0 l.1;
        read = l.2;
      },
      is,
    )

pub some_earliest : (js : Journals) (chain : List Ref) (begin : Ref) (skew x : ℕ) (m : ℤ) → IsChain js chain
    → first_of_chain chain ≡ Some begin → reading_of js begin ≡ Some x
    → m +ℤ pos skew ≡ pos x → IsEarliest js chain skew (Some m)
some_earliest js chain begin skew x m c e read is =
    let b = ended js chain c in
    let l = read_line (line_of js begin) x read in (
      b.0,
      x,
      record {
        begin = begin;
        line = l.0;
        leads = leads_from js chain begin b.0 c e b.1;
        names =
            line_names js begin l.0 l.1;
        read = l.2;
      },
      is,
    )

-- ---- a chain gives one bound at each end

pub first_from : (js : Journals) (chain : List Ref) (r : Ref) (x : ℕ) → WrittenBy js chain r x
    → first_of_chain chain ≡ Some r
first_from js chain r x w = ap first_of_chain w.leads.begins

pub last_from : (js : Journals) (chain : List Ref) (r : Ref) (x : ℕ) → WrittenFrom js chain r x
    → last_of_chain chain ≡ Some r
last_from js chain r x w = ends_last chain r w.leads.ends

read_by : (js : Journals) (r : Ref) (l : Line) (x : ℕ) → Names js r l → l.reading ≡ x → reading_of js r ≡ Some x
read_by js r l x n e = ap (option_map (λ (l : Line). l.reading)) (names_line js r l n) ∙ ap (λ y. Some y) e

one_reading : (js : Journals) (r s : Ref) (x y : ℕ) → r ≡ s → reading_of js r ≡ Some x → reading_of js s ≡ Some y
    → x ≡ y
one_reading js r s x y e a b = let same : Some x ≡ Some y = sym a ∙ (ap (reading_of js) e ∙ b) in cc

pub one_latest : (js : Journals) (chain : List Ref) (r s : Ref) (x y : ℕ) → WrittenBy js chain r x
    → WrittenBy js chain s y → x ≡ y
one_latest js chain r s x y v w =
    let same : Some v.end ≡ Some w.end = sym (ends_last chain v.end v.leads.ends)
    ∙ ends_last chain w.end w.leads.ends in
    one_reading js v.end w.end x y (cc) (read_by js v.end v.line x v.names v.read)
    (read_by js w.end w.line y w.names w.read)

pub one_earliest : (js : Journals) (chain : List Ref) (r s : Ref) (x y : ℕ) → WrittenFrom js chain r x
    → WrittenFrom js chain s y → x ≡ y
one_earliest js chain r s x y v w =
    let same : Some v.begin ≡ Some w.begin = sym (ap first_of_chain v.leads.begins)
    ∙ ap first_of_chain w.leads.begins in
    one_reading js v.begin w.begin x y (cc) (read_by js v.begin v.line x v.names v.read)
    (read_by js w.begin w.line y w.names w.read)
