-- The first fault of octets that are no frame.
use Rattle.std.proofs.Common.{◌≡◌, ◌≢◌, ℕ, ◌<◌, ◌≤◌, Bool, true, false, cond, eqb, leb, List, ◌∷◌, length, get_or, drop}
use Rattle.std.proofs.Common.{Option, Some, None, Result, Ok, Err, refl, sym, ap, subst, ◌∙◌, arith, inl, inr, ◌⊎◌}
use Rattle.std.proofs.Common.{drop-cons}
use Rattle.std.specs.Int.{w32}
use Rattle.std.proofs.lemmas.Bool.{cases_lt, eqb-true, eq-eqb, leb-true, le-leb, lt-ltb, le-ltb}
use Rattle.std.proofs.lemmas.List.{drop_at, length-drop}
use Rattle.text_fields.proofs.Steps.{both}
use Rattle.failover_message.specs.declared.error.LinkError.{LinkError}
use Rattle.failover_message.specs.declared.error.LinkError.TheVariants as errors
use Rattle.failover_message.specs.declared.frame.Frame.{Frame}
use Rattle.failover_message.specs.Frames.{number_octets, content_octets, frame_octets, is_length, IsFrame}
use Rattle.failover_message.specs.Parsing.{number_at, is_kind, fields_of, or_field, content_of, is_whole, behind_length}
use Rattle.failover_message.specs.Parsing.{frame_of}
use Rattle.failover_message.specs.Faults.{length_of, IsMeasured, HasLength, HasKind, IsNoFrame}
use Rattle.failover_message.proofs.FieldLaws.{IsBytes, IsBytes-drop, IsBytes-rest, wide32}
use Rattle.failover_message.proofs.FrameLaws.{IsContent, fields_take, content_again, frame_takes}

-- ---- behind the length field

-- these octets are no frame's behind its length field
pub record IsNoContent (bytes : List ℕ) : Type 0 where
  pub each : (f : Frame) → IsFrame f → bytes ≢ content_octets f

pub record IsCode (code : ℕ) : Type 0 where
  pub least : 1 ≤ code
  pub most : code ≤ 12

pub record IsNoKind (code : ℕ) (found : Result Frame LinkError) : Type 0 where
  pub no_code : IsCode code → ⊥
  pub is : found ≡ Err errors.Kind

pub record IsNoField (code : ℕ) (bytes : List ℕ) (found : Result Frame LinkError) : Type 0 where
  pub is_code : IsCode code
  pub none : IsNoContent bytes
  pub is : found ≡ Err errors.Field

pub record IsFound (code : ℕ) (bytes : List ℕ) (found : Result Frame LinkError) : Type 0 where
  pub is_code : IsCode code
  pub frame : Frame
  pub content : IsContent bytes frame
  pub is : found ≡ Ok frame

-- what octets behind a length field are found to be
abbrev pub Finding : ℕ → List ℕ → Result Frame LinkError → Type 0
Finding code bytes found = IsNoKind code found ⊎ (IsNoField code bytes found ⊎ IsFound code bytes found)

pub content_found : (code : ℕ) (rest : List ℕ) → IsBytes (code ∷ rest)
    → Finding code (code ∷ rest) (content_of (code ∷ rest))
content_found code rest fits = by (is_kind code) refl
  where
    fields : (o : Option Frame) → fields_of code rest ≡ o → IsCode code → content_of (code ∷ rest) ≡ or_field o
        → Finding code (code ∷ rest) (content_of (code ∷ rest))
    fields None none code-is is =
        inr (inl (record {
          is_code = code-is;
          none =
              record {
                each = λ f h same. (let again = sym (ap content_of same ∙ content_again f h) ∙ is in
                    absurd cc);
              };
          is = is;
        }))
    fields (Some f) some code-is is =
        inr (inr (record {
          is_code = code-is;
          frame = f;
          content =
              fields_take code rest f (IsBytes-rest code rest fits) some;
          is = is;
        }))

    by : (b : Bool) → is_kind code ≡ b → Finding code (code ∷ rest) (content_of (code ∷ rest))
    by true is = let t = both (leb 1 code) (leb code 12) is in
        fields (fields_of code rest) refl (record { least = leb-true 1 code t.0; most = leb-true code 12 t.1 })
        (rw is refl)
    by false is =
        inl (record {
          no_code = λ h. (let yes : is_kind code ≡ true =
              rw (le-leb 1 code h.least, le-leb code 12 h.most) refl in let no = sym yes ∙ is in absurd cc);
          is =
              rw is refl;
        })

-- ---- with the length field

pub number_is : (bytes : List ℕ) → 4 ≤ length bytes → number_at w32 bytes ≡ Some (length_of bytes, drop 4 bytes)
unfolding number_at
number_is bytes le = rw (le-ltb (length bytes) 4 le) refl

pub number_none : (bytes : List ℕ) → length bytes < 4 → number_at w32 bytes ≡ None
unfolding number_at
number_none bytes lt = rw (lt-ltb (length bytes) 4 lt) refl

pub measured : (bytes : List ℕ) → 4 ≤ length bytes → is_length (length_of bytes) ≡ true → IsMeasured bytes
measured bytes le e = let t = both (leb 13 (length_of bytes)) (leb (length_of bytes) 512) e in
    record { field = le; least = leb-true 13 (length_of bytes) t.0; most = leb-true (length_of bytes) 512 t.1 }

pub is_measured : (bytes : List ℕ) → IsMeasured bytes → is_length (length_of bytes) ≡ true
is_measured bytes h = rw (le-leb 13 (length_of bytes) h.least, le-leb (length_of bytes) 512 h.most) refl

-- what octets are found to be
pub record IsNoLength (bytes : List ℕ) (found : Result Frame LinkError) : Type 0 where
  pub no_length : HasLength bytes → ⊥
  pub is : found ≡ Err errors.Length

pub record IsOfNoKind (bytes : List ℕ) (found : Result Frame LinkError) : Type 0 where
  pub has_length : HasLength bytes
  pub no_kind : HasKind bytes → ⊥
  pub is : found ≡ Err errors.Kind

pub record IsOfNoField (bytes : List ℕ) (found : Result Frame LinkError) : Type 0 where
  pub has_length : HasLength bytes
  pub has_kind : HasKind bytes
  pub none : IsNoFrame bytes
  pub is : found ≡ Err errors.Field

pub record IsOfFrame (bytes : List ℕ) (found : Result Frame LinkError) : Type 0 where
  pub has_length : HasLength bytes
  pub has_kind : HasKind bytes
  pub frame : Frame
  pub parts : bytes ≡ frame_octets frame
  pub fits : IsFrame frame
  pub is : found ≡ Ok frame

abbrev pub Outcome : List ℕ → Result Frame LinkError → Type 0
Outcome bytes found = IsNoLength bytes found
    ⊎ (IsOfNoKind bytes found ⊎ (IsOfNoField bytes found ⊎ IsOfFrame bytes found))

no_frame : (bytes : List ℕ) → IsNoContent (drop 4 bytes) → IsNoFrame bytes
no_frame bytes none =
    record {
      each = λ f h same. none.each f h (ap (drop 4) same
          ∙ drop_at (number_octets w32 (length (content_octets f))) (content_octets f) 4
          (wide32.len (length (content_octets f))));
    }

pub headed : (bytes : List ℕ) → 4 < length bytes → drop 4 bytes ≡ get_or bytes 4 0 ∷ drop 5 bytes
headed bytes lt = drop-cons bytes 4 0 lt

behind : (bytes : List ℕ) → IsBytes bytes → HasLength bytes → frame_of bytes ≡ content_of (drop 4 bytes)
    → Outcome bytes (frame_of bytes)
behind bytes fits h is =
    let split = headed bytes (omega (arith, h.counts, h.measured.least)) in
    let fits-behind : IsBytes (get_or bytes 4 0 ∷ drop 5 bytes) = subst IsBytes split (IsBytes-drop 4 bytes fits) in
    let same : frame_of bytes ≡ content_of (get_or bytes 4 0 ∷ drop 5 bytes) = is ∙ ap content_of split in
    elim (content_found (get_or bytes 4 0) (drop 5 bytes) fits-behind) [
      | inl k ↦ inr
          (inl (record {
            has_length = h;
            no_kind = λ q. k.no_code (record { least = q.least; most = q.most });
            is =
                same ∙ k.is;
          }))
      | inr (inl f) ↦
          inr (inr (inl (record {
            has_length = h;
            has_kind = record { least = f.is_code.least; most = f.is_code.most };
            none = no_frame bytes (subst IsNoContent (sym split) f.none);
            is = same ∙ f.is;
          })))
      | inr (inr g) ↦ (let t = frame_takes bytes g.frame fits (same ∙ g.is) in
          inr (inr (inr (record {
            has_length = h;
            has_kind = record { least = g.is_code.least; most = g.is_code.most };
            frame = g.frame;
            parts = t.0;
            fits = t.1;
            is = same ∙ g.is;
          }))))
    ]

long : (bytes : List ℕ) → IsBytes bytes → 4 ≤ length bytes → (b : Bool) → is_whole (length_of bytes, drop 4 bytes) ≡ b
    → frame_of bytes ≡ cond b (content_of (drop 4 bytes)) (Err errors.Length) → Outcome bytes (frame_of bytes)
long bytes fits le true e is =
    let t = both (is_length (length_of bytes)) (eqb (length (drop 4 bytes)) (length_of bytes)) e in
    let counts : length (drop 4 bytes) ≡ length_of bytes = eqb-true _ _ t.1 in
    behind bytes fits (record {
      measured = measured bytes le t.0;
      counts =
          omega (arith, counts, length-drop 4 bytes);
    }) is
long bytes fits le false e is =
    inl (record {
      no_length = λ h. (let yes : is_whole (length_of bytes, drop 4 bytes) ≡ true =
          rw (
            is_measured bytes h.measured,
            eq-eqb (length (drop 4 bytes)) (length_of bytes)
                (omega (arith, h.counts, length-drop 4 bytes)),
          ) refl in let no = sym yes ∙ e in absurd cc);
      is = is;
    })

pub frame_found : (bytes : List ℕ) → IsBytes bytes → Outcome bytes (frame_of bytes)
frame_found bytes fits =
    elim (cases_lt (length bytes) 4) [
      | inl lt ↦ inl (record {
        no_length = λ h. absurd (omega (arith, h.measured.field));
        is =
            ap behind_length (number_none bytes lt);
      })
      | inr le ↦ long bytes fits le (is_whole (length_of bytes, drop 4 bytes)) refl
          (ap behind_length (number_is bytes le))
    ]

-- ---- each fault

pub length_fault : (bytes : List ℕ) (found : Result Frame LinkError) → Outcome bytes found
    → (found ≡ Err errors.Length → HasLength bytes → ⊥) × ((HasLength bytes → ⊥) → found ≡ Err errors.Length)
length_fault bytes found (inl v) = (λ e h. v.no_length h, λ n. v.is)
length_fault bytes found (inr (inl v)) = (λ e h. (let x = sym v.is ∙ e in absurd cc), λ n. absurd (n v.has_length))
length_fault bytes found (inr (inr (inl v))) =
    (λ e h. (let x = sym v.is ∙ e in absurd cc), λ n. absurd (n v.has_length))
length_fault bytes found (inr (inr (inr v))) =
    (λ e h. (let x = sym v.is ∙ e in absurd cc), λ n. absurd (n v.has_length))

pub kind_fault : (bytes : List ℕ) (found : Result Frame LinkError) → Outcome bytes found
    → (found ≡ Err errors.Kind → HasLength bytes × (HasKind bytes → ⊥))
    × (HasLength bytes × (HasKind bytes → ⊥) → found ≡ Err errors.Kind)
kind_fault bytes found (inl v) = (λ e. (let x = sym v.is ∙ e in absurd cc), λ n. absurd (v.no_length n.0))
kind_fault bytes found (inr (inl v)) = (λ e. (v.has_length, v.no_kind), λ n. v.is)
kind_fault bytes found (inr (inr (inl v))) = (λ e. (let x = sym v.is ∙ e in absurd cc), λ n. absurd (n.1 v.has_kind))
kind_fault bytes found (inr (inr (inr v))) = (λ e. (let x = sym v.is ∙ e in absurd cc), λ n. absurd (n.1 v.has_kind))

pub field_fault : (bytes : List ℕ) (found : Result Frame LinkError) → Outcome bytes found
    → (found ≡ Err errors.Field → HasLength bytes × HasKind bytes × IsNoFrame bytes)
    × (HasLength bytes × HasKind bytes × IsNoFrame bytes → found ≡ Err errors.Field)
field_fault bytes found (inl v) = (λ e. (let x = sym v.is ∙ e in absurd cc), λ n. absurd (v.no_length n.0))
field_fault bytes found (inr (inl v)) = (λ e. (let x = sym v.is ∙ e in absurd cc), λ n. absurd (v.no_kind n.1))
field_fault bytes found (inr (inr (inl v))) = (λ e. (v.has_length, v.has_kind, v.none), λ n. v.is)
field_fault bytes found (inr (inr (inr v))) =
    (λ e. (let x = sym v.is ∙ e in absurd cc), λ n. absurd (n.2.each v.frame v.fits v.parts))

pub no_memory : (bytes : List ℕ) (found : Result Frame LinkError) → Outcome bytes found → found ≢ Err errors.Memory
no_memory bytes found (inl v) e = let x = sym v.is ∙ e in absurd cc
no_memory bytes found (inr (inl v)) e = let x = sym v.is ∙ e in absurd cc
no_memory bytes found (inr (inr (inl v))) e = let x = sym v.is ∙ e in absurd cc
no_memory bytes found (inr (inr (inr v))) e = let x = sym v.is ∙ e in absurd cc
