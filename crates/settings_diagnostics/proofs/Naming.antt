-- The settings that a document names whose keys are each as wanted.
use Rattle.std.proofs.Common.{arith, ◌≡◌, inl, inr, ℕ, pos, ◌+◌, ◌<◌, ◌≤◌, Bool, true, false, List, [], ◌∷◌, ◌++◌}
use Rattle.std.proofs.Common.{length, codes, Option, Some, None, option_map, option_and_then, refl, sym, ap, subst}
use Rattle.std.specs.Prelude.{⊤, nat_le}
use Rattle.std.specs.List.{All, sum_by}
use Rattle.std.proofs.lemmas.Bool.{le-leb, leb-true}
use Rattle.std.proofs.lemmas.Bool.Decides.{nat_tests}
use Rattle.std.proofs.lemmas.List.Elements.{All-cons}
use Rattle.toml.specs.Data.{Data, Items, no_items, item, Members, no_members, get_member, as_str, as_integer, as_array}
use Rattle.toml.specs.Data.{as_table}
use Rattle.text_fields.specs.Parsing.{◌>>=◌}
use Rattle.prefix_range.specs.Prefix.{Prefix}
use Rattle.client_id.specs.Duid.{duid_word}
use Rattle.binding_rules.specs.declared.role.Role.{Role as RoleValue}
use Rattle.server_settings.specs.Settings.{ServerSettings, settings_of, AreWithin}
use Rattle.book_state.specs.declared.pool.Pool.{Pool}
use Rattle.book_state.specs.Book.{units_in}
use Rattle.book_state.specs.Places.{IsPool}
use Rattle.server_settings.specs.Document.{role_of, prefix_of, up_to, text_at, number_at, role_in, duid_in, transit_by}
use Rattle.server_settings.specs.Document.{transit_in, pool_of, pools_of, pools_in as named_pools, named_in}
use Rattle.settings_diagnostics.specs.declared.key.Key.{Key}
use Rattle.settings_diagnostics.specs.declared.key.Key.TheVariants.{Role, Duid, SkewMs, Mclt, Life, TransitMs}
use Rattle.settings_diagnostics.specs.declared.key.Key.TheVariants.{Prefix as PrefixKey, Unit, Pool as PoolKey}
use Rattle.settings_diagnostics.specs.declared.key_rule.TextFormat.{TextFormat}
use Rattle.settings_diagnostics.specs.declared.key_rule.TextFormat.TheVariants.{RoleName, Identifier, Range}
use Rattle.settings_diagnostics.specs.declared.key_rule.Expectation.TheVariants.{Text, Number, Tables}
use Rattle.settings_diagnostics.specs.declared.key_rule.KeyRule.{KeyRule}
use Rattle.settings_diagnostics.specs.declared.key_diagnostic.KeyTable.{KeyTable}
use Rattle.settings_diagnostics.specs.declared.key_diagnostic.KeyTable.TheVariants.{Top, Pool as PoolPlace}
use Rattle.settings_diagnostics.specs.declared.key_diagnostic.KeyDiagnostic.{KeyDiagnostic}
use Rattle.settings_diagnostics.specs.declared.refusing.PoolConflict.TheVariants.{Units}
use Rattle.settings_diagnostics.specs.Keys.{key_name}
use Rattle.settings_diagnostics.specs.KeyRules.{Spells, IsFit, IsMet, AreDiagnostics, always, maybe, wishes, count_of}
use Rattle.settings_diagnostics.specs.Pools.{prefix_in, least_unit, pool_key_rules, length_or_none, IsPoolPrefix, AreOfPool}
use Rattle.settings_diagnostics.specs.Pools.{members_or_none, members_in, AreOfPools, items_or_none, pools_in}
use Rattle.settings_diagnostics.specs.Refusing.{AreAll, AreNamed, AreRead, IsClash}

-- ---- no complaint

nil_both : (xs ys : List KeyDiagnostic) → [] ≡ xs ++ ys → (xs ≡ []) × (ys ≡ [])
nil_both [] ys e = (refl, sym e)
nil_both (x ∷ xs) ys e = absurd (cc e)

-- each of the wishes is met
record Both (A B : Type 0) : Type 0 where
  pub first : A
  pub rest : B

abbrev AllMet : Members → List KeyRule → Type 0
AllMet m [] = ⊤
AllMet m (w ∷ ws) = Both (IsMet m w) (AllMet m ws)

all_met : (m : Members) (place : KeyTable) (ws : List KeyRule) → AreDiagnostics m place ws [] → AllMet m ws
all_met m place [] are = tt
all_met m place (w ∷ ws) (inl fit) = record { first = fit.0; rest = all_met m place ws fit.1 }
all_met m place (w ∷ ws) (inr some) = let e = some.2 in absurd (cc e)

-- ---- one key

goes : {A B : Type 0} (o : Option A) (x : A) (f : A → Option B) (r : Option B) → o ≡ Some x → f x ≡ r → (o >>= f) ≡ r
goes {A = A} o x f r found on = subst (λ (o : Option A). option_and_then f o ≡ r) (sym found) on

record Spelled (wording : TextFormat) (o : Option (List ℕ)) : Type 0 where
  pub word : List ℕ
  pub at : o ≡ Some word
  pub spells : Spells wording word

record Counted (low high : ℕ) (o : Option ℕ) : Type 0 where
  pub n : ℕ
  pub at : o ≡ Some n
  pub least : low ≤ n
  pub most : n ≤ high

text_met : (m : Members) (key : Key) (wording : TextFormat) → IsMet m (always key (Text wording))
    → Spelled wording (text_at (key_name key) m)
unfolding text_at
text_met m key wording met = by_value (get_member (key_name key) m) met where
  by_value : (o : Option Data) → IsFit (always key (Text wording)) o → Spelled wording (o >>= (λ value. as_str value))
  by_value None met = absurd (cc met)
  by_value (Some d) (word, at, spells) = record { word = word; at = at; spells = spells }

up_to_most : (n most : ℕ) → n ≤ most → up_to most (pos n) ≡ Some n
unfolding up_to
up_to_most n most le = rw (le-leb n most le) refl

number_met : (m : Members) (key : Key) (least most : ℕ) → IsMet m (always key (Number least most))
    → Counted least most (number_at (key_name key) most m)
unfolding number_at
number_met m key least most met = by_value (get_member (key_name key) m) met where
  by_value : (o : Option Data) → IsFit (always key (Number least most)) o
      → Counted least most (o >>= (λ value. as_integer value >>= (λ n. up_to most n)))
  by_value None met = absurd (cc met)
  by_value (Some d) (n, at, ge, le) =
      record {
        n = n;
        at = goes (as_integer d) (pos n) (λ n. up_to most n) (Some n) at (up_to_most n most le);
        least =
            ge;
        most = le;
      }

transit_met : (m : Members) → IsMet m (maybe TransitMs (Number 0 3600000)) → (n : ℕ) × (transit_in m ≡ Some n)
unfolding transit_in
transit_met m met = by_value (get_member (codes "transit_ms") m) refl met where
  by_value : (o : Option Data) → get_member (codes "transit_ms") m ≡ o → IsFit (maybe TransitMs (Number 0 3600000)) o
      → (n : ℕ) × (transit_by o m ≡ Some n)
  by_value None e met = (0, refl)
  by_value (Some d) e met =
      let n = number_met m TransitMs 0 3600000
      (subst (λ (o : Option Data). IsFit (always TransitMs (Number 0 3600000)) o) (sym e) met) in
      (n.n, n.at)

-- ---- the pools

record Named (o : Option Pool) : Type 0 where
  pub pool : Pool
  pub at : o ≡ Some pool
  pub is_pool : IsPool pool

pool_named : (m : Members) (before : ℕ) → AreOfPool before m []
    → Named (text_at (codes "prefix") m >>= (λ word. prefix_of word
    >>= (λ prefix. number_at (codes "unit") 128 m
    >>= (λ unit. Some (record { prefix = prefix; unit_length = unit })))))
unfolding prefix_in
pool_named m before are =
    let met = all_met m (PoolPlace before) (pool_key_rules m) are.keys in
    let word = text_met m PrefixKey Range met.first in
    let p : Prefix = word.spells.0 in
    let unit = number_met m Unit (least_unit m) 128 met.rest.first in
    let found : prefix_in m ≡ Some p = goes (text_at (codes "prefix") m) word.word (λ word. prefix_of word)
    (Some p) word.at word.spells.1 in
    let pool : Pool = record { prefix = p; unit_length = unit.n } in
    record {
      pool = pool;
      at = goes (text_at (codes "prefix") m) word.word (λ word. prefix_of word
          >>= (λ prefix. number_at (codes "unit") 128 m
          >>= (λ unit. Some (record { prefix = prefix; unit_length = unit })))) (Some pool) word.at
          (goes (prefix_of word.word) p (λ prefix. number_at (codes "unit") 128 m
          >>= (λ unit. Some (record { prefix = prefix; unit_length = unit }))) (Some pool) word.spells.1
          (goes (number_at (codes "unit") 128 m) unit.n (λ unit. Some (record { prefix = p; unit_length = unit }))
          (Some pool) unit.at refl));
      is_pool = record {
        prefix = subst IsPoolPrefix found are.prefix;
        longer = subst (λ (o : Option Prefix). length_or_none o ≤ unit.n) found unit.least;
        short = unit.most;
      };
    }

pool_met : (before : ℕ) (d : Data) → AreOfPool before (members_in d) [] → Named (pool_of d)
unfolding pool_of
pool_met before d are = by_table (as_table d) are where
  by_table : (o : Option Members) → AreOfPool before (members_or_none o) []
      → Named (o >>= (λ m. text_at (codes "prefix") m
      >>= (λ word. prefix_of word >>= (λ prefix. number_at (codes "unit") 128 m
      >>= (λ unit. Some (record { prefix = prefix; unit_length = unit }))))))
  by_table None are = let met = all_met no_members (PoolPlace before) (pool_key_rules no_members) are.keys in
      let none = met.first in absurd (cc none)
  by_table (Some m) are = pool_named m before are

record AllNamed (count : ℕ) (o : Option (List Pool)) : Type 0 where
  pub pools : List Pool
  pub at : o ≡ Some pools
  pub each : All IsPool pools
  pub many : length pools ≡ count

pools_met : (before : ℕ) (ds : Items) → AreOfPools before ds [] → AllNamed (count_of ds) (pools_of ds)
unfolding pools_of
pools_met before no_items are = record {
  pools = [];
  at = refl;
  each = λ k d lt. absurd (omega (arith, lt));
  many =
      refl;
}
pools_met before (item d ds) (one, rest, joined, here, behind) =
    let none = nil_both one rest joined in
    let p = pool_met before d (subst (λ (one : List KeyDiagnostic). AreOfPool before (members_in d) one) none.0 here) in
    let ps = pools_met (before + 1) ds (subst (λ (rest : List KeyDiagnostic). AreOfPools (before + 1) ds rest) none.1
    behind) in
    record {
      pools = p.pool ∷ ps.pools;
      at = goes (pool_of d) p.pool (λ pool. option_map (λ pools. pool ∷ pools) (pools_of ds))
          (Some (p.pool ∷ ps.pools)) p.at (ap (option_map (λ pools. p.pool ∷ pools)) ps.at);
      each = All-cons IsPool p.pool ps.pools p.is_pool ps.each;
      many = let same = ps.many in omega (arith, same);
    }

record Bounded (o : Option (List Pool)) : Type 0 where
  pub pools : List Pool
  pub at : o ≡ Some pools
  pub each : All IsPool pools
  pub some : 1 ≤ length pools
  pub few : length pools ≤ 16

pools_named : (m : Members) → IsMet m (always PoolKey (Tables 1 16)) → AreOfPools 0 (pools_in m) []
    → Bounded (named_pools m)
unfolding named_pools
pools_named m met are = by_value (get_member (codes "pool") m) met are where
  by_value : (o : Option Data) → IsFit (always PoolKey (Tables 1 16)) o
      → AreOfPools 0 (items_or_none (o >>= as_array)) []
      → Bounded (o >>= (λ value. as_array value >>= (λ items. pools_of items)))
  by_value None met are = absurd (cc met)
  by_value (Some d) (ds, at, count) are =
      let ps = pools_met 0 ds (subst (λ (o : Option Items). AreOfPools 0 (items_or_none o) []) at are) in
      let same = ps.many in
      let least = count.0 in
      let most = count.1 in
      record {
        pools = ps.pools;
        at = goes (as_array d) ds (λ items. pools_of items) (Some ps.pools) at ps.at;
        each = ps.each;
        some = omega (arith, same, least);
        few = omega (arith, same, most);
      }

-- ---- the settings

role_met : (m : Members) → IsMet m (always Role (Text RoleName)) → (r : RoleValue) × (role_in m ≡ Some r)
unfolding role_in
role_met m met =
    let t = text_met m Role RoleName met in
    (t.spells.0, goes (text_at (codes "role") m) t.word (λ word. role_of word) (Some t.spells.0) t.at t.spells.1)

duid_met : (m : Members) → IsMet m (always Duid (Text Identifier)) → (d : List ℕ) × (duid_in m ≡ Some d)
unfolding duid_in
duid_met m met =
    let t = text_met m Duid Identifier met in
    (t.spells.0, goes (text_at (codes "duid") m) t.word (λ word. duid_word word) (Some t.spells.0) t.at t.spells.1)

module _ (role : RoleValue) (duid : List ℕ) (skew mclt life transit : ℕ) (pools : List Pool) where
  -- the settings of seven parts that are each there
  all_there : (a : Option RoleValue) (b : Option (List ℕ)) (c d e f : Option ℕ) (g : Option (List Pool))
      → a ≡ Some role → b ≡ Some duid → c ≡ Some skew
      → d ≡ Some mclt → e ≡ Some life → f ≡ Some transit → g ≡ Some pools
      → (a >>= (λ role. b
      >>= (λ duid. c
      >>= (λ skew. d
      >>= (λ mclt. e
      >>= (λ life. f
      >>= (λ transit. g
      >>= (λ pools. Some (settings_of role duid skew mclt life transit pools)))))))))
      ≡ Some (settings_of role duid skew mclt life transit pools)
  all_there a b c d e f g at bt ct dt et ft gt = rw (at, bt, ct, dt, et, ft, gt) refl

record Within (m : Members) : Type 0 where
  pub settings : ServerSettings
  pub at : named_in m ≡ Some settings
  pub within : sum_by units_in settings.pools ≤ 65536 → AreWithin settings

named_met : (m : Members) → AreAll m [] → Within m
unfolding named_in
named_met m are =
    let none = nil_both are.top are.of_pools are.joined in
    let met = all_met m Top wishes (subst (λ (top : List KeyDiagnostic). AreDiagnostics m Top wishes top) none.0 are.keys) in
    let role = role_met m met.first in
    let duid = duid_met m met.rest.first in
    let skew = number_met m SkewMs 0 86400000 met.rest.rest.first in
    let mclt = number_met m Mclt 1 31536000 met.rest.rest.rest.first in
    let life = number_met m Life 1 31536000 met.rest.rest.rest.rest.first in
    let transit = transit_met m met.rest.rest.rest.rest.rest.first in
    let pools = pools_named m met.rest.rest.rest.rest.rest.rest.rest.rest.rest.first
    (subst (λ (of_pools : List KeyDiagnostic). AreOfPools 0 (pools_in m) of_pools) none.1 are.pools) in
    record {
      settings = settings_of role.0 duid.0 skew.n mclt.n life.n transit.0 pools.pools;
      at = all_there role.0 duid.0 skew.n mclt.n life.n transit.0 pools.pools (role_in m) (duid_in m)
          (number_at (codes "skew_ms") 86400000 m)
          (number_at (codes "mclt") 31536000 m) (number_at (codes "life") 31536000 m) (transit_in m)
          (named_pools m) role.1 duid.1 skew.at mclt.at life.at transit.1 pools.at;
      within = λ room. record {
        mclt_least = mclt.least;
        mclt = mclt.most;
        life_least = life.least;
        life = life.most;
        some = pools.some;
        few = pools.few;
        each = pools.each;
        room = room;
      };
    }

pub too_many : (m : Members) → AreAll m [] → ((s : ServerSettings) → named_in m ≡ Some s → AreWithin s → ⊥)
    → IsClash m Units
too_many m are refused =
    let named = named_met m are in (
      named.settings,
      named.at,
      by_test named.settings named.at named.within
          (nat_le (sum_by units_in named.settings.pools) 65536) refl,
    ) where
      by_test : (s : ServerSettings) → named_in m ≡ Some s → (sum_by units_in s.pools ≤ 65536 → AreWithin s)
          → (b : Bool) → nat_le (sum_by units_in s.pools) 65536 ≡ b → 65536 < sum_by units_in s.pools
      by_test s at within true e = absurd (refused s at (within (leb-true (sum_by units_in s.pools) 65536 e)))
      by_test s at within false e = grind (arith, nat_tests)

-- ---- the node

read_met : (m : Members) → AreAll m [] → AreNamed m → AreRead m
read_met m are named =
    let none = nil_both are.top are.of_pools are.joined in
    let met = all_met m Top wishes (subst (λ (top : List KeyDiagnostic). AreDiagnostics m Top wishes top) none.0 are.keys) in
    let ways = met.rest.rest.rest.rest.rest.rest in
    record { server = named; listen = ways.first; link = ways.rest.first; workers = ways.rest.rest.first }

-- without a complaint and without a clash
pub read_when : (m : Members) (keys : List KeyDiagnostic) → AreAll m keys → keys ≡ [] → AreNamed m → AreRead m
read_when m keys are none named = read_met m (subst (λ (all : List KeyDiagnostic). AreAll m all) none are) named
