-- What single lines show of orders and readings.
use Rattle.std.specs.Prelude.{◌≡◌, ℕ, ◌+◌, ◌<◌, ◌⊎◌, ◌↔◌, IsTrue, Bool, true, false, List, [], ◌∷◌, Option, Some, None}
use Rattle.std.specs.Prelude.{option_map, length, if◌then◌else◌}
use Rattle.std.proofs.Common.{arith, sym, ◌∙◌, ap, subst, inl, inr, refl}
use Rattle.binding_rules.specs.declared.role.Role.{Role}
use Rattle.binding_rules.specs.declared.role.Role.TheVariants.{Primary, Secondary}
use Rattle.binding_rules.specs.Role.{partner_of}
use Rattle.journal_lines.specs.declared.line.Line.{Line}
use Rattle.causal_order.specs.declared.reference.Ref.{Ref}
use Rattle.causal_order.specs.declared.order.Precedes.{Precedes}
use Rattle.causal_order.specs.declared.order.Precedes.TheVariants.{Chain, Clock}
use Rattle.causal_order.specs.Journals.{Journals, line_of, Names}
use Rattle.causal_order.specs.Order.{IsLater, IsChain, EndsWith, Leads, WrittenBy, WrittenFrom, IsSurelyBefore}
use Rattle.causal_order.specs.Tests.{is_later}
use Rattle.causal_order.specs.Bounds.{reading_of}
use Rattle.causal_order.proofs.Deciding.{line_names, names_line, decides_later}
use Rattle.plain_search.specs.Plain.{IsOneLine, IsTwoLines, IsPlainOrder}
use Rattle.plain_search.specs.Search.{IsReadAt, IsPlainlyBefore, plain_order}

-- ---- tests

pub not_both : {b : Bool} → b ≡ true → b ≡ false → ⊥
not_both h g = cc

pub partner_differs : (x : Role) → partner_of x ≡ x → ⊥
partner_differs Primary h = cc
partner_differs Secondary h = cc

-- ---- readings

module _ (js : Journals) where
  read_in : (o : Option Line) (x : ℕ) → option_map (λ (l : Line). l.reading) o ≡ Some x
      → (l : Line) × (o ≡ Some l) × (l.reading ≡ x)
  read_in None x h = absurd (cc)
  read_in (Some l) x h = (l, refl, cc)

  pub read_line : (r : Ref) (x : ℕ) → IsReadAt js r x → (l : Line) × Names js r l × (l.reading ≡ x)
  read_line r x h = let s = read_in (line_of js r) x h in (s.0, line_names js r s.0 s.1, s.2)

  pub line_read : (r : Ref) (l : Line) → Names js r l → IsReadAt js r l.reading
  line_read r l n = ap (option_map (λ (k : Line). k.reading)) (names_line js r l n)

  pub one_reading : (r : Ref) (x y : ℕ) → IsReadAt js r x → IsReadAt js r y → x ≡ y
  one_reading r x y a b = let same : Some x ≡ Some y = sym a ∙ b in cc

  -- ---- single lines as chains

  pub by_alone : (r : Ref) (x : ℕ) → IsReadAt js r x → WrittenBy js (r ∷ []) r x
  by_alone r x h =
      let l = read_line r x h in
      record {
        end = r;
        line = l.0;
        leads = record { rest = []; begins = refl; ends = refl; links = (l.0, l.1) };
        names = l.1;
        read = l.2;
      }

  pub from_alone : (r : Ref) (x : ℕ) → IsReadAt js r x → WrittenFrom js (r ∷ []) r x
  from_alone r x h =
      let l = read_line r x h in
      record {
        begin = r;
        line = l.0;
        leads = record { rest = []; begins = refl; ends = refl; links = (l.0, l.1) };
        names = l.1;
        read = l.2;
      }

  one_leads : (chain : List Ref) (r s : Ref) → Leads js chain r s → IsOneLine chain → r ≡ s
  one_leads chain r s h one =
      let e : EndsWith (one.0 ∷ []) s = subst (λ x. EndsWith x s) one.1 h.ends in
      let f : one.0 ∷ [] ≡ r ∷ h.rest = sym one.1 ∙ h.begins in
      let g : one.0 ≡ r = cc in
      sym g ∙ e

  pub by_one : (chain : List Ref) (r : Ref) (x : ℕ) → WrittenBy js chain r x → IsOneLine chain → IsReadAt js r x
  by_one chain r x w one =
      subst (λ y. IsReadAt js r y) w.read
      (line_read r w.line (subst (λ s. Names js s w.line) (sym (one_leads chain r w.end w.leads one)) w.names))

  pub from_one : (chain : List Ref) (r : Ref) (x : ℕ) → WrittenFrom js chain r x → IsOneLine chain → IsReadAt js r x
  from_one chain r x w one =
      subst (λ y. IsReadAt js r y) w.read
      (line_read r w.line (subst (λ s. Names js s w.line) (one_leads chain w.begin r w.leads one) w.names))

  -- ---- orders of two lines

  module _ (skew : ℕ) where
    order_by : (r s : Ref) (l k : Line) → Names js r l → Names js s k
        → IsLater r s ⊎ (l.reading + skew + skew < k.reading) → (b : Bool) → is_later r s ≡ b
        → IsSurelyBefore js skew (if b then Chain (r ∷ s ∷ []) else Clock (r ∷ []) (s ∷ [])) r s
    order_by r s l k n m h true e = (
      record {
        rest = s ∷ [];
        begins = refl;
        ends = refl;
        links =
            ((l, n), inl ((decides_later r s).0 e), (k, m));
      },
      omega arith,
    )
    order_by r s l k n m (inl later) false e = absurd (not_both ((decides_later r s).1 later) e)
    order_by r s l k n m (inr apart) false e =
        (l.reading, k.reading, by_alone r l.reading (line_read r l n), from_alone s k.reading (line_read s k m), apart)

    -- what two lines show, their plain order shows
    pub before_shown : (r s : Ref) → IsPlainlyBefore js skew r s → IsSurelyBefore js skew (plain_order r s) r s
    before_shown r s h =
        let l = read_line r h.0 h.2 in
        let k = read_line s h.1 h.3 in
        order_by r s l.0 k.0 l.1 k.1 (elim h.4 [
          | inl later ↦ inl later
          | inr apart ↦ inr (let x = l.2 in let y = k.2 in omega arith)
        ]) (is_later r s) refl

    two_later : (chain : List Ref) (r s : Ref) → Leads js chain r s → IsTwoLines chain
        → (l : Line) × (k : Line) × Names js r l × Names js s k × IsLater r s
    two_later chain r s h two =
        let a = two.0 in
        let b = two.1 in
        let f : a ∷ b ∷ [] ≡ r ∷ h.rest = sym two.2 ∙ h.begins in
        let g : a ≡ r = cc in
        let e : b ≡ s = subst (λ x. EndsWith x s) two.2 h.ends in
        let c : IsChain js (a ∷ b ∷ []) = subst (IsChain js) two.2 h.links in
        let later : IsLater a b = elim c.1 [ inl x ↦ x | inr t ↦ absurd (partner_differs a.side (sym t.0 ∙ two.3)) ] in (
          c.0.0,
          c.2.0,
          subst (λ x. Names js x c.0.0) g c.0.1,
          subst (λ x. Names js x c.2.0) e c.2.1,
          subst (λ x. IsLater x s) g (subst (λ x. IsLater a x) e later),
        )

    -- what a plain order shows, the two lines alone show
    pub shown_before : (order : Precedes) (r s : Ref) → IsPlainOrder order → IsSurelyBefore js skew order r s
        → IsPlainlyBefore js skew r s
    shown_before (Chain chain) r s (inl one) h = let l : length chain ≡ 1 = ap length one.1 in let two = h.1 in
        absurd (omega arith)
    shown_before (Chain chain) r s (inr two) h =
        let t = two_later chain r s h.0 two in
        (t.0.reading, t.1.reading, line_read r t.0 t.2, line_read s t.1 t.3, inl t.4)
    shown_before (Clock first second) r s one h =
        (h.0, h.1, by_one first r h.0 h.2 one.0, from_one second s h.1 h.3 one.1, inr h.4)

    -- ---- tests of two lines

    pub before_by_tests : (r s : Ref) (x y : ℕ) → Some x ≡ reading_of js r → Some y ≡ reading_of js s
        → IsLater r s ⊎ (x + skew + skew < y) → IsPlainlyBefore js skew r s
    before_by_tests r s x y a b h = (x, y, sym a, sym b, h)

    pub tests_before : (r s : Ref) (x y : ℕ) → Some x ≡ reading_of js r → Some y ≡ reading_of js s
        → IsPlainlyBefore js skew r s → IsLater r s ⊎ (x + skew + skew < y)
    tests_before r s x y a b h =
        let p = one_reading r h.0 x h.2 (sym a) in
        let q = one_reading s h.1 y h.3 (sym b) in
        elim h.4 [ inl later ↦ inl later | inr apart ↦ inr (omega arith) ]

    pub not_read_first : (r s : Ref) → None ≡ reading_of js r → IsTrue false ↔ IsPlainlyBefore js skew r s
    not_read_first r s e = (λ t. absurd (cc), λ h. (let x : None ≡ Some h.0 = e ∙ h.2 in absurd (cc)))

    pub not_read_second : (r s : Ref) → None ≡ reading_of js s → IsTrue false ↔ IsPlainlyBefore js skew r s
    not_read_second r s e = (λ t. absurd (cc), λ h. (let x : None ≡ Some h.1 = e ∙ h.3 in absurd (cc)))
