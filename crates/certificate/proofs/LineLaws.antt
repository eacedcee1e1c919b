-- A line that is read is spelled so, and a line that is spelled so is read.
use Rattle.std.proofs.Common.{◌≡◌, ℕ, ◌≤◌, ◌^◌, List, [], ◌∷◌, ◌++◌, Some, refl, sym, ap, subst, ◌∙◌, append-nil, arith}
use Rattle.std.specs.Prelude.{codes}
use Rattle.std.specs.Fmt.{decimal}
use Rattle.text_fields.specs.Octets.{hex}
use Rattle.text_fields.specs.Parsing.{alone, ◌>>=◌}
use Rattle.text_fields.proofs.Steps.{bind_some}
use Rattle.client_id.specs.Duid.{IsDuid}
use Rattle.prefix_range.specs.Prefix.{Prefix, IsPrefix}
use Rattle.prefix_range.specs.Text.{prefix_text}
use Rattle.line_words.specs.Words.{reading_at, duid_at, prefix_at}
use Rattle.line_words.proofs.WordLaws.{number_at_takes, number_at_again, duid_at_takes, duid_at_again, prefix_at_takes}
use Rattle.line_words.proofs.WordLaws.{prefix_at_again}
use Rattle.causal_order.specs.declared.certificate.Clear.{Clear}
use Rattle.causal_order.specs.declared.certificate.Piece.{Piece}
use Rattle.causal_order.specs.declared.certificate.Foreign.{Foreign}
use Rattle.certificate.specs.Spelling.{ref_text, chain_text, why_words, clear_words, reason_words, holder_words}
use Rattle.certificate.specs.Spelling.{prefix_words, interval_words, piece_words, foreign_words, IsClear, IsPiece}
use Rattle.certificate.specs.Spelling.{IsForeign}
use Rattle.certificate.specs.Lines.{keyword_at, ref_at, chain_at, why_at, reason_at, holder_in, prefix_in, interval_in}
use Rattle.certificate.specs.Lines.{piece_in, clear_in, foreign_in}
use Rattle.certificate.proofs.WordLaws.{alone_takes, keyword_takes, keyword_again, ref_at_takes, ref_at_again}
use Rattle.certificate.proofs.WordLaws.{chain_at_takes, chain_at_again}
use Rattle.certificate.proofs.ReasonLaws.{why_takes, why_again, reason_takes, reason_again}

-- one word more in front
front : (word : List ℕ) (a b : List (List ℕ)) → a ≡ b → word ∷ a ≡ word ∷ b
front word a b e = ap (λ (ws : List (List ℕ)). word ∷ ws) e

-- ---- the lines that stand in each certificate

pub holder_takes : (words : List (List ℕ)) (d : List ℕ) → holder_in words ≡ Some d → (words ≡ holder_words d) × IsDuid d
unfolding holder_in
holder_takes words d e =
    let k = bind_some (keyword_at (codes "holder") words) (λ k. duid_at k.1 >>= λ h. alone h.0 h.1) d e in
    let h = bind_some (duid_at k.0.1) (λ h. alone h.0 h.1) d k.2 in
    let a = alone_takes h.0.0 d h.0.1 h.2 in
    let t = duid_at_takes k.0.1 h.0.0 h.0.1 h.1 in
    let whole : words ≡ holder_words h.0.0 = keyword_takes (codes "holder") words k.0.0 k.0.1 k.1
    ∙ front (codes "holder") _ _ (t.0 ∙ front (hex h.0.0) _ _ a.0) in
    subst (λ (x : List ℕ). (words ≡ holder_words x) × IsDuid x) a.1 (whole, t.1)

pub holder_again : (d : List ℕ) → IsDuid d → holder_in (holder_words d) ≡ Some d
unfolding holder_in
holder_again d h = rw (keyword_again (codes "holder") (hex d ∷ []), duid_at_again d [] h) refl

pub prefix_takes : (words : List (List ℕ)) (p : Prefix) → prefix_in words ≡ Some p
    → (words ≡ prefix_words p) × IsPrefix p
unfolding prefix_in
prefix_takes words p e =
    let k = bind_some (keyword_at (codes "prefix") words) (λ k. prefix_at k.1 >>= λ x. alone x.0 x.1) p e in
    let x = bind_some (prefix_at k.0.1) (λ x. alone x.0 x.1) p k.2 in
    let a = alone_takes x.0.0 p x.0.1 x.2 in
    let t = prefix_at_takes k.0.1 x.0.0 x.0.1 x.1 in
    let whole : words ≡ prefix_words x.0.0 = keyword_takes (codes "prefix") words k.0.0 k.0.1 k.1
    ∙ front (codes "prefix") _ _ (t.0 ∙ front (prefix_text x.0.0) _ _ a.0) in
    subst (λ (q : Prefix). (words ≡ prefix_words q) × IsPrefix q) a.1 (whole, t.1)

pub prefix_again : (p : Prefix) → IsPrefix p → prefix_in (prefix_words p) ≡ Some p
unfolding prefix_in
prefix_again p h = rw (keyword_again (codes "prefix") (prefix_text p ∷ []), prefix_at_again p [] h) refl

pub interval_takes : (words : List (List ℕ)) (x : ℕ × ℕ) → interval_in words ≡ Some x
    → (words ≡ interval_words x.0 x.1) × (x.0 ≤ 2 ^ 48) × (x.1 ≤ 2 ^ 48)
unfolding interval_in
interval_takes words x e =
    let k = bind_some (keyword_at (codes "interval") words) (λ k. reading_at k.1 >>= λ f. reading_at f.1
    >>= λ t. alone (f.0, t.0) t.1) x e in
    let f = bind_some (reading_at k.0.1) (λ f. reading_at f.1 >>= λ t. alone (f.0, t.0) t.1) x k.2 in
    let t = bind_some (reading_at f.0.1) (λ t. alone (f.0.0, t.0) t.1) x f.2 in
    let a = alone_takes (f.0.0, t.0.0) x t.0.1 t.2 in
    let from = number_at_takes (2 ^ 48) k.0.1 f.0.0 f.0.1 f.1 in
    let to = number_at_takes (2 ^ 48) f.0.1 t.0.0 t.0.1 t.1 in
    let whole : words ≡ interval_words f.0.0 t.0.0 =
    keyword_takes (codes "interval") words k.0.0 k.0.1 k.1
    ∙ front (codes "interval") _ _ (from.0 ∙ front (decimal f.0.0) _ _ (to.0 ∙ front (decimal t.0.0) _ _ a.0)) in
    subst (λ (y : ℕ × ℕ). (words ≡ interval_words y.0 y.1) × (y.0 ≤ 2 ^ 48) × (y.1 ≤ 2 ^ 48)) a.1 (whole, from.1, to.1)

pub interval_again : (from to : ℕ) → from ≤ 2 ^ 48 → to ≤ 2 ^ 48
    → interval_in (interval_words from to) ≡ Some (from, to)
unfolding interval_in
interval_again from to f t =
    rw (
      keyword_again (codes "interval") (decimal from ∷ decimal to ∷ []),
      number_at_again (2 ^ 48) from (decimal to ∷ []) f (omega arith),
      number_at_again (2 ^ 48) to [] t (omega arith),
    ) refl

-- ---- pieces

pub piece_takes : (words : List (List ℕ)) (p : Piece) → piece_in words ≡ Some p
    → (codes "piece" ∷ words ≡ piece_words p) × IsPiece p × (p.clear ≡ [])
unfolding piece_in
piece_takes words p e =
    let g = bind_some (ref_at words) (λ g. reading_at g.1 >>= λ f. reading_at f.1
    >>= λ t. keyword_at (codes "latest") t.1 >>= λ j. chain_at j.1 >>= λ l. keyword_at (codes "earliest") l.1
    >>= λ k. chain_at k.1 >>= λ x. alone (record {
      grant = g.0;
      from = f.0;
      to = t.0;
      latest = l.0;
      earliest =
          x.0;
      clear = [];
    }) x.1) p e in
    let f = bind_some (reading_at g.0.1) (λ f. reading_at f.1 >>= λ t. keyword_at (codes "latest") t.1
    >>= λ j. chain_at j.1 >>= λ l. keyword_at (codes "earliest") l.1 >>= λ k. chain_at k.1
    >>= λ x. alone (record { grant = g.0.0; from = f.0; to = t.0; latest = l.0; earliest = x.0; clear = [] })
    x.1) p g.2 in
    let t = bind_some (reading_at f.0.1) (λ t. keyword_at (codes "latest") t.1 >>= λ j. chain_at j.1
    >>= λ l. keyword_at (codes "earliest") l.1 >>= λ k. chain_at k.1
    >>= λ x. alone (record { grant = g.0.0; from = f.0.0; to = t.0; latest = l.0; earliest = x.0; clear = [] })
    x.1) p f.2 in
    let j = bind_some (keyword_at (codes "latest") t.0.1) (λ j. chain_at j.1 >>= λ l. keyword_at (codes "earliest") l.1
    >>= λ k. chain_at k.1 >>= λ x. alone (record {
      grant = g.0.0;
      from = f.0.0;
      to = t.0.0;
      latest = l.0;
      earliest = x.0;
      clear = [];
    }) x.1) p t.2 in
    let l = bind_some (chain_at j.0.1) (λ l. keyword_at (codes "earliest") l.1 >>= λ k. chain_at k.1
    >>= λ x. alone (record { grant = g.0.0; from = f.0.0; to = t.0.0; latest = l.0; earliest = x.0; clear = [] })
    x.1) p j.2 in
    let k = bind_some (keyword_at (codes "earliest") l.0.1) (λ k. chain_at k.1
    >>= λ x. alone (record { grant = g.0.0; from = f.0.0; to = t.0.0; latest = l.0.0; earliest = x.0; clear = [] })
    x.1) p l.2 in
    let x = bind_some (chain_at k.0.1) (λ x.
    alone (record { grant = g.0.0; from = f.0.0; to = t.0.0; latest = l.0.0; earliest = x.0; clear = [] }) x.1) p
    k.2 in
    let made : Piece = record {
      grant = g.0.0;
      from = f.0.0;
      to = t.0.0;
      latest = l.0.0;
      earliest = x.0.0;
      clear =
          [];
    } in
    let a = alone_takes made p x.0.1 x.2 in
    let grant = ref_at_takes words g.0.0 g.0.1 g.1 in
    let from = number_at_takes (2 ^ 48) g.0.1 f.0.0 f.0.1 f.1 in
    let to = number_at_takes (2 ^ 48) f.0.1 t.0.0 t.0.1 t.1 in
    let latest = chain_at_takes j.0.1 l.0.0 l.0.1 l.1 in
    let earliest = chain_at_takes k.0.1 x.0.0 x.0.1 x.1 in
    let whole : codes "piece" ∷ words ≡ piece_words made =
    front (codes "piece") _ _ (grant.0 ∙ front (ref_text g.0.0) _ _ (from.0
    ∙ front (decimal f.0.0) _ _ (to.0 ∙ front (decimal t.0.0) _ _ (
    keyword_takes (codes "latest") t.0.1 j.0.0 j.0.1 j.1
    ∙ front (codes "latest") _ _ (latest.0 ∙ front (chain_text l.0.0) _ _ (
    keyword_takes (codes "earliest") l.0.1 k.0.0 k.0.1 k.1
    ∙ front (codes "earliest") _ _ (earliest.0 ∙ front (chain_text x.0.0) _ _ a.0))))))) in
    subst (λ (q : Piece). (codes "piece" ∷ words ≡ piece_words q) × IsPiece q × (q.clear ≡ [])) a.1 (
      whole,
      record { grant = grant.1; from = from.1; to = to.1; latest = latest.1; earliest = earliest.1; clear = tt },
      refl,
    )

pub piece_again : (p : Piece) → IsPiece p
    → piece_in (ref_text p.grant ∷ decimal p.from ∷ decimal p.to ∷ codes "latest" ∷ chain_text p.latest
    ∷ codes "earliest" ∷ chain_text p.earliest ∷ []) ≡ Some (record p { clear = [] })
unfolding piece_in
piece_again p h =
    rw (
      ref_at_again p.grant (decimal p.from ∷ decimal p.to ∷ codes "latest" ∷ chain_text p.latest ∷ codes "earliest"
          ∷ chain_text p.earliest ∷ []) h.grant,
      number_at_again (2 ^ 48) p.from (decimal p.to ∷ codes "latest" ∷ chain_text p.latest ∷ codes "earliest"
          ∷ chain_text p.earliest ∷ []) h.from (omega (arith, h.from)),
      number_at_again (2 ^ 48) p.to (codes "latest" ∷ chain_text p.latest ∷ codes "earliest" ∷ chain_text p.earliest
          ∷ []) h.to (omega (arith, h.to)),
      keyword_again (codes "latest") (chain_text p.latest ∷ codes "earliest" ∷ chain_text p.earliest ∷ []),
      chain_at_again p.latest (codes "earliest" ∷ chain_text p.earliest ∷ []) h.latest,
      keyword_again (codes "earliest") (chain_text p.earliest ∷ []),
      chain_at_again p.earliest [] h.earliest,
    ) refl

-- ---- releases that are cleared

pub clear_takes : (words : List (List ℕ)) (c : Clear) → clear_in words ≡ Some c
    → (codes "clear" ∷ words ≡ clear_words c) × IsClear c
unfolding clear_in
clear_takes words c e =
    let g = bind_some (ref_at words) (λ g. why_at g.1 >>= λ w. alone (record { release = g.0; why = w.0 }) w.1) c e in
    let w = bind_some (why_at g.0.1) (λ w. alone (record { release = g.0.0; why = w.0 }) w.1) c g.2 in
    let made : Clear = record { release = g.0.0; why = w.0.0 } in
    let a = alone_takes made c w.0.1 w.2 in
    let release = ref_at_takes words g.0.0 g.0.1 g.1 in
    let why = why_takes g.0.1 w.0.0 w.0.1 w.1 in
    let whole : codes "clear" ∷ words ≡ clear_words made =
    front (codes "clear") _ _ (release.0 ∙ front (ref_text g.0.0) _ _ (why.0
    ∙ (ap (λ (ws : List (List ℕ)). why_words w.0.0 ++ ws) a.0 ∙ append-nil (why_words w.0.0)))) in
    subst (λ (q : Clear). (codes "clear" ∷ words ≡ clear_words q) × IsClear q) a.1 (
      whole,
      record { release = release.1; why = why.1 },
    )

pub clear_again : (c : Clear) → IsClear c → clear_in (ref_text c.release ∷ why_words c.why) ≡ Some c
unfolding clear_in
clear_again c h =
    let why : why_at (why_words c.why) ≡ Some (c.why, []) = ap why_at (sym (append-nil (why_words c.why)))
    ∙ why_again c.why [] h.why in
    rw (ref_at_again c.release (why_words c.why) h.release, why) refl

-- ---- other clients' grants

pub foreign_takes : (words : List (List ℕ)) (f : Foreign) → foreign_in words ≡ Some f
    → (codes "foreign" ∷ words ≡ foreign_words f) × IsForeign f
unfolding foreign_in
foreign_takes words f e =
    let g = bind_some (ref_at words) (λ g. reason_at g.1 >>= λ r. alone (record { grant = g.0; reason = r.0 }) r.1) f e
    in
    let r = bind_some (reason_at g.0.1) (λ r. alone (record { grant = g.0.0; reason = r.0 }) r.1) f g.2 in
    let made : Foreign = record { grant = g.0.0; reason = r.0.0 } in
    let a = alone_takes made f r.0.1 r.2 in
    let grant = ref_at_takes words g.0.0 g.0.1 g.1 in
    let reason = reason_takes g.0.1 r.0.0 r.0.1 r.1 in
    let whole : codes "foreign" ∷ words ≡ foreign_words made =
    front (codes "foreign") _ _ (grant.0 ∙ front (ref_text g.0.0) _ _ (reason.0
    ∙ (ap (λ (ws : List (List ℕ)). reason_words r.0.0 ++ ws) a.0 ∙ append-nil (reason_words r.0.0)))) in
    subst (λ (q : Foreign). (codes "foreign" ∷ words ≡ foreign_words q) × IsForeign q) a.1 (
      whole,
      record { grant = grant.1; reason = reason.1 },
    )

pub foreign_again : (f : Foreign) → IsForeign f → foreign_in (ref_text f.grant ∷ reason_words f.reason) ≡ Some f
unfolding foreign_in
foreign_again f h =
    let reason : reason_at (reason_words f.reason) ≡ Some (f.reason, []) =
    ap reason_at (sym (append-nil (reason_words f.reason))) ∙ reason_again f.reason [] h.reason in
    rw (ref_at_again f.grant (reason_words f.reason) h.grant, reason) refl
