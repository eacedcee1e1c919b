-- What a loss of power leaves of lines.
use Rattle.std.proofs.Common.{◌≡◌, ◌⊎◌, inl, inr, ⊎_elim, ℕ, zero, suc, ◌+◌, ◌<◌, ◌≤◌, List, [], ◌∷◌, ◌++◌, length}
use Rattle.std.proofs.Common.{take, drop, get_or, refl, sym, ◌∙◌, ap, subst, arith, take-add}
use Rattle.std.proofs.lemmas.Bool.{cases_eq}
use Rattle.std.proofs.lemmas.List.{append-nil, take_at, drop_at, take-append-drop, get_or-drop, get_or-take}
use Rattle.std.proofs.lemmas.List.{length-take-le, length-append, length-drop, ext_get_or}
use Rattle.disk_model.specs.Disk.{File, StandsIn, IsLeft}
use Rattle.disk_model.specs.Lines.{IsInLine, IsLine, text_of, in_front, recovered, AreFirst}
use Rattle.disk_model.proofs.Lines.{AreLines, recovered_octet, recovered_lines, text_of-append}

-- each octet is zero or as written
abbrev pub Patched : List ℕ → List ℕ → Type 0
Patched written [] = Unit {0}
Patched [] (b ∷ c) = (b ≡ 0) × Patched [] c
Patched (x ∷ w) (b ∷ c) = ((b ≡ 0) ⊎ (b ≡ x)) × Patched w c

pub patched : (w c : List ℕ) → ((i : ℕ) → (get_or c i 0 ≡ 0) ⊎ (get_or c i 0 ≡ get_or w i 0)) → Patched w c
patched w [] each = tt
patched [] (b ∷ c) each = (⊎_elim (λ e. e) (λ e. e) (each 0), patched [] c (λ i. each (suc i)))
patched (x ∷ w) (b ∷ c) each = (each 0, patched w c (λ i. each (suc i)))

pub zero_ends : (b : ℕ) (c : List ℕ) → b ≡ 0 → recovered (b ∷ c) ≡ []
zero_ends b c is = ap (λ (n : ℕ). recovered (n ∷ c)) is

-- the first line is there whole, and then what is left of the others, or nothing is
abbrev FirstLine : List ℕ → List ℕ → List ℕ → Type 0
FirstLine l w c = (recovered c ≡ []) ⊎ ((rest : List ℕ) × (recovered c ≡ l ∷ recovered rest) × Patched w rest)

longer_line : (x : ℕ) (l w c : List ℕ) → IsInLine x → FirstLine l w c → FirstLine (x ∷ l) w (x ∷ c)
longer_line x l w c is (inl none) = inl (recovered_octet x c is ∙ ap (in_front x) none)
longer_line x l w c is (inr some) = inr (some.0, recovered_octet x c is ∙ ap (in_front x) some.1, some.2)

first_line : (l : List ℕ) → IsLine l → (w c : List ℕ) → Patched (l ++ 10 ∷ w) c → FirstLine l w c
first_line l is w [] p = inl refl
first_line [] is w (b ∷ c) (inl z, p) = inl (zero_ends b c z)
first_line [] is w (b ∷ c) (inr feed, p) = inr (c, ap (λ (n : ℕ). recovered (n ∷ c)) feed, p)
first_line (x ∷ l) is w (b ∷ c) (inl z, p) = inl (zero_ends b c z)
first_line (x ∷ l) is w (b ∷ c) (inr same, p) =
    subst (λ (n : ℕ). FirstLine (x ∷ l) w (n ∷ c)) (sym same) (longer_line x l w c is.0 (first_line l is.1 w c p))

-- so many of the first lines are there, and no others
pub record SomeFirst (ls : List (List ℕ)) (c : List ℕ) : Type 0 where
  pub count : ℕ
  pub within : count ≤ length ls
  pub same : recovered c ≡ take count ls

more_first : (l : List ℕ) (ls : List (List ℕ)) (c rest : List ℕ) → recovered c ≡ l ∷ recovered rest → SomeFirst ls rest
    → SomeFirst (l ∷ ls) c
more_first l ls c rest is s = record {
  count = suc s.count;
  within = omega (arith, s.within);
  same =
      is ∙ ap (λ (r : List (List ℕ)). l ∷ r) s.same;
}

pub some_first : (ls : List (List ℕ)) → AreLines ls → (c : List ℕ) → Patched (text_of ls) c → SomeFirst ls c
some_first [] are [] p = record { count = 0; within = omega arith; same = refl }
some_first [] are (b ∷ c) p = record { count = 0; within = omega arith; same = zero_ends b c p.0 }
some_first (l ∷ ls) are c p = ⊎_elim
    (λ none. record { count = 0; within = omega arith; same = none })
    (λ some. more_first l ls c some.0 some.1 (some_first ls are.1 some.0 some.2))
    (first_line l are.0 (text_of ls) c p)

-- an end of which nothing is recovered stays such an end
nothing_behind : (x : ℕ) (t c : List ℕ) → IsInLine x → recovered (x ∷ t) ≡ [] → recovered t ≡ []
nothing_behind x t c is none = no_lines (recovered t) (sym (recovered_octet x t is) ∙ none)
  where
    no_lines : (ls : List (List ℕ)) → in_front x ls ≡ [] → ls ≡ []
    no_lines [] e = refl
    no_lines (l ∷ ls) e = absurd (cc e)

pub patched_nothing : (t : List ℕ) → recovered t ≡ [] → (c : List ℕ) → Patched t c → recovered c ≡ []
patched_nothing t none [] p = refl
patched_nothing [] none (b ∷ c) p = zero_ends b c p.0
patched_nothing (x ∷ t) none (b ∷ c) (inl z, p) = zero_ends b c z
patched_nothing (x ∷ t) none (b ∷ c) (inr same, p) = elim (cases_eq x 0) [
  | inl z ↦ zero_ends b c (same ∙ z)
  | inr not_zero ↦ elim (cases_eq x 10) [
    | inl feed ↦ let some : recovered (x ∷ t) ≡ [] ∷ recovered t = ap (λ (n : ℕ). recovered (n ∷ t)) feed in
        absurd (cc (some, none))
    | inr not_feed ↦
        let behind = patched_nothing t (nothing_behind x t c (not_zero, not_feed) none) c p in
        ap (λ (n : ℕ). recovered (n ∷ c)) same ∙ recovered_octet x c (not_zero, not_feed) ∙ ap (in_front x) behind
  ]
]

-- a content whose front is as it was
same_front : (s : ℕ) (a c : List ℕ) → s ≤ length a → s ≤ length c → ((i : ℕ) → i < s → get_or c i 0 ≡ get_or a i 0)
    → take s c ≡ take s a
same_front s a c long also each =
    ext_get_or 0 (take s c) (take s a) (length-take-le s c also ∙ sym (length-take-le s a long))
    (λ i lt. let below : i < s = omega (arith, lt, length-take-le s c also) in
    get_or-take s c i 0 below ∙ each i below ∙ sym (get_or-take s a i 0 below))

-- behind a front that is as it was, each octet is zero or as it was
patched_behind : (s : ℕ) (w c : List ℕ) → ((i : ℕ) → (get_or c i 0 ≡ 0) ⊎ (get_or c i 0 ≡ get_or w i 0))
    → Patched (drop s w) (drop s c)
patched_behind s w c each = patched (drop s w) (drop s c) (λ i.
    ⊎_elim (λ z. inl (get_or-drop s c i 0 ∙ z)) (λ e. inr (get_or-drop s c i 0 ∙ e ∙ sym (get_or-drop s w i 0)))
    (each (s + i)))

-- The front is the text of lines, and behind it each octet is zero or as in `tail`.
front_and_rest : (ls : List (List ℕ)) → AreLines ls → (tail w c : List ℕ) → w ≡ text_of ls ++ tail
    → length (text_of ls) ≤ length c
    → ((i : ℕ) → i < length (text_of ls) → get_or c i 0 ≡ get_or w i 0)
    → ((i : ℕ) → (get_or c i 0 ≡ 0) ⊎ (get_or c i 0 ≡ get_or w i 0))
    → (rest : List ℕ) × (recovered c ≡ ls ++ recovered rest) × Patched tail rest
front_and_rest ls are tail w c is long front each =
    let s = length (text_of ls) in
    let whole : s ≤ length w = omega (arith, ap length is, length-append (text_of ls) tail) in
    let before : take s c ≡ text_of ls = same_front s w c whole long front ∙ ap (λ (l : List ℕ). take s l) is
    ∙ take_at (text_of ls) tail s refl in
    let behind : drop s w ≡ tail = ap (λ (l : List ℕ). drop s l) is ∙ drop_at (text_of ls) tail s refl in
    let split : c ≡ text_of ls ++ drop s c = sym (take-append-drop s c) ∙ ap (λ (l : List ℕ). l ++ drop s c) before in (
      drop s c,
      ap recovered split ∙ recovered_lines ls are (drop s c),
      subst (λ (l : List ℕ). Patched l (drop s c)) behind (patched_behind s w c each),
    )

-- nothing was cut since the last sync
swapped : {A B : Type 0} → A ⊎ B → B ⊎ A
swapped (inl a) = inr a
swapped (inr b) = inl b

-- lines were written, of which the first so many are synced
pub left_first : (f : File) (ls : List (List ℕ)) (least : ℕ) → AreLines ls → least ≤ length ls → f.written ≡ text_of ls
    → f.synced ≡ length (text_of (take least ls)) → f.under ≡ [] → (c : List ℕ) → IsLeft f c → AreFirst ls least c
left_first f ls least are within is synced none c left =
    let split : text_of ls ≡ text_of (take least ls) ++ text_of (drop least ls) =
    ap text_of (sym (take-append-drop least ls)) ∙ text_of-append (take least ls) (drop least ls) in
    let each : (i : ℕ) → (get_or c i 0 ≡ 0) ⊎ (get_or c i 0 ≡ get_or f.written i 0) =
    λ i. swapped (subst (λ (under : List (List ℕ)). StandsIn (f.written ∷ under) i (get_or c i 0)) none (left.rest i))
    in
    let all = front_and_rest (take least ls) (take_lines least ls are) (text_of (drop least ls)) f.written c (is
    ∙ split)
    (omega (arith, left.no_shorter, synced)) (λ i lt. left.front i (omega (arith, lt, synced))) each in
    let some = some_first (drop least ls) (drop_lines least ls are) all.0 all.2 in
    record {
      count = least + some.count;
      enough = omega arith;
      within = omega (arith, some.within, length-drop least ls, within);
      same = all.1 ∙ ap (λ (r : List (List ℕ)). take least ls ++ r) some.same ∙ sym (take-add least some.count ls);
    }
  where
    take_lines : (n : ℕ) (ls : List (List ℕ)) → AreLines ls → AreLines (take n ls)
    take_lines zero ls are = tt
    take_lines (suc n) [] are = tt
    take_lines (suc n) (l ∷ ls) are = (are.0, take_lines n ls are.1)

    drop_lines : (n : ℕ) (ls : List (List ℕ)) → AreLines ls → AreLines (drop n ls)
    drop_lines zero ls are = are
    drop_lines (suc n) [] are = tt
    drop_lines (suc n) (l ∷ ls) are = drop_lines n ls are.1

-- the whole lines of a content are on the disk, and nothing was written since
pub left_same : (content tail : List ℕ) (c : List ℕ) → content ≡ text_of (recovered content) ++ tail
    → recovered tail ≡ [] → AreLines (recovered content)
    → length (text_of (recovered content)) ≤ length c
    → ((i : ℕ) → i < length (text_of (recovered content)) → get_or c i 0 ≡ get_or content i 0)
    → ((i : ℕ) → (get_or c i 0 ≡ 0) ⊎ (get_or c i 0 ≡ get_or content i 0)) → recovered c ≡ recovered content
left_same content tail c split none are long front each =
    let all = front_and_rest (recovered content) are tail content c split long front each in
    all.1 ∙ ap (λ (r : List (List ℕ)). recovered content ++ r) (patched_nothing tail none all.0 all.2)
    ∙ append-nil (recovered content)
