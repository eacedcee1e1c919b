-- A delegation that is valid is one that the log of its prefix holds.
use Rattle.std.specs.Prelude.{◌≡◌, ◌+◌, ◌*◌, ◌<◌, ◌≤◌, ◌∷◌, [], List, true, ℕ}
use Rattle.std.proofs.Common.{ap, arith, inl, inr, refl, subst, suc, sym, zero}
use Rattle.pair_world.specs.UnitInRun.{entry_of, holder_of, log_of}
use Rattle.prefix_range.specs.Prefix.{Prefix}
use Rattle.binding_rules.specs.declared.unit.Binding.{Binding}
use Rattle.binding_rules.specs.declared.role.Role.{Role}
use Rattle.journal_lines.specs.declared.event.Event.TheVariants.{Backup, Base, Carry, Close, Expire, Grant, Open}
use Rattle.journal_lines.specs.declared.event.Event.TheVariants.{Pool as PoolLine, Reclaim, Release, Restart, Seize}
use Rattle.journal_lines.specs.declared.event.Event.TheVariants.{Send, State, Take, Transit as TransitLine}
use Rattle.journal_lines.specs.declared.event.Event.TheVariants.{Unit as UnitLine}
use Rattle.journal_lines.specs.declared.event.Event.{Event}
use Rattle.journal_lines.specs.declared.event.Lease.{Lease}
use Rattle.book_state.specs.Effects.{same_prefix}
use Rattle.attribution.specs.Run.{At, Step}
use Rattle.pair_world.specs.UnitWorld.{Entry, Gives, GivesBack}
use Rattle.pair_world.specs.UnitSafe.{HasUnit, Runs}
use Rattle.pair_world.proofs.Effects.{by_test}
use Rattle.pair_world.proofs.Books.{same_prefix_is, same_prefix_self}

-- What may be said of a grant by its binding, and stays where the binding's release isn't added.
pub record Lasting (k : Binding) (Never : ℕ → Type 0) (P : List Entry → Type 0) : Type 0 where
  pub gives : (side : Role) (holder : Binding) (moment valid : ℕ) (log : List Entry) → P log
      → P (Gives side holder moment valid ∷ log)
  pub gives_back : (holder : Binding) (moment : ℕ) (log : List Entry) → (holder ≡ k → Never moment) → P log
      → P (GivesBack holder moment ∷ log)

module _ (p : Prefix) (client : List ℕ) (iaid : ℕ) (Never : ℕ → Type 0) (P : List Entry
    → Type 0) (lasting : Lasting (holder_of client iaid) Never P) where
  by_line : (side : Role) (moment : ℕ) (e : Event) (log : List Entry) → (e ≡ Release client iaid p → Never moment)
      → P log → P (entry_of p side moment e log)
  by_line side moment (Grant g) log never h =
      by_test P (same_prefix p g.prefix) (Gives side (holder_of g.client g.iaid) moment g.valid ∷ log) log
      (λ _. lasting.gives side (holder_of g.client g.iaid) moment g.valid log h) (λ _. h)
  by_line side moment (Release c i q) log never h =
      by_test P (same_prefix p q) (GivesBack (holder_of c i) moment ∷ log) log
      (λ t. lasting.gives_back (holder_of c i) moment log
      (λ same.
      let same_q : p ≡ q = same_prefix_is p q t in
      let same_c : c ≡ client = ap (λ (b : Binding). b.client) same in
      let same_i : i ≡ iaid = ap (λ (b : Binding). b.iaid) same in
      never (cc)) h)
      (λ _. h)
  by_line side moment (Open x y z) log never h = h
  by_line side moment (PoolLine x y) log never h = h
  by_line side moment (TransitLine x) log never h = h
  by_line side moment (Base x) log never h = h
  by_line side moment (Carry x) log never h = h
  by_line side moment (UnitLine x) log never h = h
  by_line side moment (Expire x) log never h = h
  by_line side moment (Backup x) log never h = h
  by_line side moment (Reclaim x) log never h = h
  by_line side moment (Send x) log never h = h
  by_line side moment (Take x) log never h = h
  by_line side moment (State x) log never h = h
  by_line side moment (Seize x) log never h = h
  by_line side moment (Restart x) log never h = h
  by_line side moment Close log never h = h

  by_lines : (ss : List Step) (log : List Entry)
      → ((j : ℕ) (t : Step) → At ss j t → t.line.event ≡ Release client iaid p → Never t.moment) → P log
      → P (log_of p ss log)
  by_lines [] log never h = h
  by_lines (s ∷ ss) log never h =
      by_lines ss (entry_of p s.side s.moment s.line.event log) (λ j t at. never (suc j) t at)
      (by_line s.side s.moment s.line.event log (never 0 s refl) h)

  made_by : {valid : ℕ} (s : Step) (g : Lease) (log : List Entry) → s.line.event ≡ Grant g → g.client ≡ client
      → g.iaid ≡ iaid → g.prefix ≡ p → g.valid ≡ valid
      → ((log : List Entry) → P (Gives s.side (holder_of client iaid) s.moment valid ∷ log))
      → P (entry_of p s.side s.moment s.line.event log)
  made_by {valid} s g log is ec ei ep ev made =
      let t : same_prefix p g.prefix ≡ true = rw ep (same_prefix_self p) in
      rw is (rw t (rw ec (rw ei (rw ev (made log)))))

  pub of_grant : (valid : ℕ) (run : List Step) (i : ℕ) (s : Step) (g : Lease) (log : List Entry) → At run i s
      → s.line.event ≡ Grant g → g.client ≡ client → g.iaid ≡ iaid → g.prefix ≡ p → g.valid ≡ valid
      → ((log : List Entry) → P (Gives s.side (holder_of client iaid) s.moment valid ∷ log))
      → ((j : ℕ) (t : Step) → i < j → At run j t → t.line.event ≡ Release client iaid p → Never t.moment)
      → P (log_of p run log)
  of_grant valid [] i s g log at is ec ei ep ev made never = absurd (cc)
  of_grant valid (t ∷ ts) zero s g log at is ec ei ep ev made never =
      let e : t ≡ s = cc in
      by_lines ts (entry_of p t.side t.moment t.line.event log) (λ j u at_j. never (suc j) u (omega arith) at_j)
      (subst (λ (x : Step). P (entry_of p x.side x.moment x.line.event log)) (sym e)
      (made_by s g log is ec ei ep ev made))
  of_grant valid (t ∷ ts) (suc i) s g log at is ec ei ep ev made never =
      of_grant valid ts i s g (entry_of p t.side t.moment t.line.event log) at is ec ei ep ev made
      (λ j u lt at_j. never (suc j) u (omega arith) at_j)

holds_lasting : (transit m : ℕ) (k : Binding) → Lasting k (λ moment. m < moment) (λ log. HasUnit transit log k m)
holds_lasting transit m k = record {
  gives = λ side holder moment valid log h. inr h;
  gives_back = λ holder moment log never h. ((λ same le. let lt = never same in omega arith), h);
}

runs_lasting : (transit end : ℕ) (side : Role) (k : Binding)
    → Lasting k (λ moment. ⊥) (λ log. Runs transit log side k end)
runs_lasting transit end side k = record {
  gives = λ x holder moment valid log h. inr h;
  gives_back = λ holder moment log never h. (never, h);
}

pub valid_holds : (transit m : ℕ) (p : Prefix) (g : Lease) (run : List Step) (i : ℕ) (s : Step) → At run i s
    → s.line.event ≡ Grant g → g.prefix ≡ p → s.moment ≤ m → m < s.moment + 1000 * g.valid + transit
    → ((j : ℕ) (t : Step) → i < j → At run j t → t.line.event ≡ Release g.client g.iaid p → m < t.moment)
    → HasUnit transit (log_of p run []) (holder_of g.client g.iaid) m
valid_holds transit m p g run i s at is same begun lasts never =
    of_grant p g.client g.iaid (λ moment. m < moment) (λ log. HasUnit transit log (holder_of g.client g.iaid) m)
    (holds_lasting transit m (holder_of g.client g.iaid))
    g.valid run i s g [] at is refl refl same refl (λ log. inl (refl, begun, lasts)) never

pub valid_runs : (transit : ℕ) (p : Prefix) (g : Lease) (run : List Step) (i : ℕ) (s : Step) → At run i s
    → s.line.event ≡ Grant g → g.prefix ≡ p
    → ((j : ℕ) (t : Step) → i < j → At run j t → t.line.event ≡ Release g.client g.iaid p → ⊥)
    → Runs transit (log_of p run []) s.side (holder_of g.client g.iaid) (s.moment + 1000 * g.valid + transit)
valid_runs transit p g run i s at is same never =
    of_grant p g.client g.iaid (λ moment. ⊥)
    (λ log. Runs transit log s.side (holder_of g.client g.iaid) (s.moment + 1000 * g.valid + transit))
    (runs_lasting transit (s.moment + 1000 * g.valid + transit) s.side (holder_of g.client g.iaid))
    g.valid run i s g [] at is refl refl same refl (λ log. inl (refl, refl, refl)) never
