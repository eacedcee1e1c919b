-- A stream that goes on, and one frame or notice of it.
use Rattle.std.proofs.Common.{◌≡◌, ◌∙◌, ℕ, ◌+◌, ◌-◌, ◌*◌, ◌/◌, ◌%◌, ◌≤◌, true, List, [], ◌∷◌, ◌++◌, length}
use Rattle.std.proofs.Common.{refl, sym, ap, subst, append_assoc, arith}
use Rattle.std.specs.Prelude.{map}
use Rattle.std.proofs.lemmas.Bool.{le-leb, lt-leb}
use Rattle.link_notices.specs.declared.stage.Stage.TheVariants.{Between, InFrame, InNotice}
use Rattle.link_notices.specs.Parting.{Token, frame_octet, whole_notice, is_frame_length, is_notice_length, given}
use Rattle.link_notices.specs.Parting.{Place, start, next_place}
use Rattle.link_notices.specs.Parting.{Parted, behind_tokens, parted}
use Rattle.link_notices.specs.Items.{IsContent, frame_octets, IsNoticeText, notice_octets}
use Rattle.link_notices.proofs.FrameLengths.{two_octets, small_octets}

-- ---- one octet behind another

-- what was given before an octet, with what it gives
pub step_is : (tokens : List Token) (p : Place) (b : ℕ) (octets : List ℕ)
    → behind_tokens tokens (parted p (b ∷ octets))
    ≡ behind_tokens (tokens ++ given p.stage p.text b) (parted (next_place p b) octets)
unfolding parted
step_is tokens p b octets =
    let later = parted (next_place p b) octets in
    ap (λ (w : List Token). record { place = later.place; tokens = w })
    (sym (append_assoc tokens (given p.stage p.text b) later.tokens))

pub end_is : (tokens : List Token) (p : Place)
    → behind_tokens tokens (parted p []) ≡ record { place = p; tokens = tokens ++ [] }
unfolding parted
end_is tokens p = refl

behind_behind : (s t : List Token) (x : Parted) → behind_tokens s (behind_tokens t x) ≡ behind_tokens (s ++ t) x
behind_behind s t x =
    ap (λ (w : List Token). record { place = x.place; tokens = w }) (sym (append_assoc s t x.tokens))

pub parted_append : (p : Place) (a b : List ℕ)
    → parted p (a ++ b) ≡ behind_tokens (parted p a).tokens (parted (parted p a).place b)
unfolding parted
parted_append p [] b = refl
parted_append p (x ∷ a) b =
    ap (behind_tokens (given p.stage p.text x)) (parted_append (next_place p x) a b)
    ∙ behind_behind (given p.stage p.text x) (parted (next_place p x) a).tokens
    (parted (parted (next_place p x) a).place b)

-- the same, where the first octets are known to lead here
pub goes_on : (p q : Place) (a b : List ℕ) (tokens : List Token)
    → parted p a ≡ record { place = q; tokens = tokens } → parted p (a ++ b) ≡ behind_tokens tokens (parted q b)
goes_on p q a b tokens e = parted_append p a b ∙ ap (λ (x : Parted). behind_tokens x.tokens (parted x.place b)) e

-- ---- a frame

frame_run : (left : ℕ) (octets text : List ℕ) → 1 ≤ left → length octets ≡ left
    → parted (record { stage = InFrame left; text = text }) octets
    ≡ record { place = record { stage = Between; text = text }; tokens = map frame_octet octets }
unfolding parted
frame_run left [] text some e = absurd (omega arith)
frame_run left (b ∷ []) text some e = rw (le-leb left 1 (omega arith)) refl
frame_run left (b ∷ c ∷ octets) text some e = rw (lt-leb left 1 (omega arith))
    (ap (behind_tokens (frame_octet b ∷ [])) (frame_run (left - 1) (c ∷ octets) text (omega arith) (omega arith)))

-- content behind its length field
content_run : (n : ℕ) (content : List ℕ) → length content ≡ n → 13 ≤ n → n ≤ 512
    → parted start (0 ∷ 0 ∷ n / 256 ∷ n % 256 ∷ content)
    ≡ record { place = start; tokens = map frame_octet (0 ∷ 0 ∷ n / 256 ∷ n % 256 ∷ content) }
unfolding parted
content_run n content long least most =
    let fits : is_frame_length (256 * (n / 256) + n % 256) ≡ true = rw (
      two_octets n,
      le-leb 13 n least,
      le-leb n 512 most,
    ) refl in
    let run = frame_run n content [] (omega arith) long in
    let head : List Token =
    frame_octet 0 ∷ frame_octet 0 ∷ frame_octet (n / 256) ∷ frame_octet (n % 256) ∷ [] in
    rw (fits, two_octets n) (ap (behind_tokens head) run)

pub frame_whole : (content : List ℕ) → IsContent content
    → parted start (frame_octets content) ≡ record { place = start; tokens = map frame_octet (frame_octets content) }
unfolding frame_octets
frame_whole content h =
    let n = length content in
    subst (λ (w : List ℕ). parted start (w ++ content)
    ≡ record { place = start; tokens = map frame_octet (w ++ content) }) (sym (small_octets n h.most))
    (content_run n content refl h.least h.most)

-- ---- a notice

notice_run : (left : ℕ) (octets text : List ℕ) → 1 ≤ left → length octets ≡ left
    → parted (record { stage = InNotice left; text = text }) octets
    ≡ record { place = start; tokens = whole_notice (text ++ octets) ∷ [] }
unfolding parted
notice_run left [] text some e = absurd (omega arith)
notice_run left (b ∷ []) text some e = rw (le-leb left 1 (omega arith)) refl
notice_run left (b ∷ c ∷ octets) text some e = rw (lt-leb left 1 (omega arith))
    (notice_run (left - 1) (c ∷ octets) (text ++ b ∷ []) (omega arith) (omega arith)
    ∙ ap (λ (w : List ℕ). record { place = start; tokens = whole_notice w ∷ [] })
    (append_assoc text (b ∷ []) (c ∷ octets)))

pub notice_whole : (text : List ℕ) → IsNoticeText text
    → parted start (notice_octets text) ≡ record { place = start; tokens = whole_notice text ∷ [] }
unfolding parted
notice_whole text h =
    let n = length text in
    let fits : is_notice_length (256 * (n / 256) + n % 256) ≡ true = rw (
      two_octets n,
      le-leb 1 n h.some,
      le-leb n 4096 h.few,
    ) refl in
    rw (fits, two_octets n) (notice_run n text [] h.some refl)
