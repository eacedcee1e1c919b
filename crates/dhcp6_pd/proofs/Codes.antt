-- Each option by its code.
use Rattle.std.proofs.Common.{◌≡◌, ℕ, false, List, ◌∷◌, refl, subst, sym, inl, inr}
use Rattle.std.specs.Prelude.{◌==◌}
use Rattle.std.proofs.lemmas.Bool.{cases_eq, ne_eqb}
use Rattle.dhcp6_pd.specs.declared.numbers.TheConstants.{CLIENT_ID, SERVER_ID, RELAY_MESSAGE, INTERFACE_ID, IA_PD}
use Rattle.dhcp6_pd.specs.declared.numbers.TheConstants.{REMOTE_ID}
use Rattle.dhcp6_pd.specs.Options.{DhcpOption, data_of}

-- none of the codes that are read in a message or a relay's
pub record IsOther (code : ℕ) : Type 0 where
  pub client : (code == CLIENT_ID) ≡ false
  pub server : (code == SERVER_ID) ≡ false
  pub relayed : (code == RELAY_MESSAGE) ≡ false
  pub interface : (code == INTERFACE_ID) ≡ false
  pub remote : (code == REMOTE_ID) ≡ false
  pub ia : (code == IA_PD) ≡ false

-- what holds of each code that is read and of all others holds of every code
pub by_code : (P : ℕ → Type 0) → P CLIENT_ID → P SERVER_ID → P RELAY_MESSAGE → P INTERFACE_ID → P REMOTE_ID → P IA_PD
    → ((code : ℕ) → IsOther code → P code) → (code : ℕ) → P code
by_code P client server relayed interface remote ia other code =
    elim (cases_eq code CLIENT_ID) [
      | inl e ↦ subst P (sym e) client
      | inr a ↦ elim (cases_eq code SERVER_ID) [
        | inl e ↦ subst P (sym e) server
        | inr b ↦ elim (cases_eq code RELAY_MESSAGE) [
          | inl e ↦ subst P (sym e) relayed
          | inr c ↦ elim (cases_eq code INTERFACE_ID) [
            | inl e ↦ subst P (sym e) interface
            | inr d ↦ elim (cases_eq code REMOTE_ID) [
              | inl e ↦ subst P (sym e) remote
              | inr f ↦ elim (cases_eq code IA_PD) [
                | inl e ↦ subst P (sym e) ia
                | inr g ↦ other code (record {
                  client = ne_eqb code CLIENT_ID a;
                  server = ne_eqb code SERVER_ID b;
                  relayed = ne_eqb code RELAY_MESSAGE c;
                  interface = ne_eqb code INTERFACE_ID d;
                  remote = ne_eqb code REMOTE_ID f;
                  ia = ne_eqb code IA_PD g;
                })
              ]
            ]
          ]
        ]
      ]
    ]

-- the data of each code that is read, without another option
pub record SameData (o : DhcpOption) (options : List DhcpOption) : Type 0 where
  pub client : data_of CLIENT_ID (o ∷ options) ≡ data_of CLIENT_ID options
  pub server : data_of SERVER_ID (o ∷ options) ≡ data_of SERVER_ID options
  pub relayed : data_of RELAY_MESSAGE (o ∷ options) ≡ data_of RELAY_MESSAGE options
  pub interface : data_of INTERFACE_ID (o ∷ options) ≡ data_of INTERFACE_ID options
  pub remote : data_of REMOTE_ID (o ∷ options) ≡ data_of REMOTE_ID options
  pub ia : data_of IA_PD (o ∷ options) ≡ data_of IA_PD options

abbrev pub option_of : ℕ → List ℕ → DhcpOption
option_of code octets = record { code = code; octets = octets }

pub same_data : (code : ℕ) (octets : List ℕ) (options : List DhcpOption) → IsOther code
    → SameData (option_of code octets) options
same_data code octets options h = record {
  client = rw h.client refl;
  server = rw h.server refl;
  relayed =
      rw h.relayed refl;
  interface = rw h.interface refl;
  remote = rw h.remote refl;
  ia = rw h.ia refl;
}
