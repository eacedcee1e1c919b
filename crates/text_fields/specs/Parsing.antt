-- What parsing gives, and what functions find of it.
use Rattle.std.specs.Prelude.{◌≡◌, ℕ, List, [], ◌∷◌, Option, Some, None, option_map, option_and_then, Result, Ok, Err}

-- ---- one step after another

-- each of which may find nothing
infixl 10 ◌>>=◌
abbrev pub ◌>>=◌ : {A B : Type 0} → Option A → (A → Option B) → Option B
o >>= f = option_and_then f o

-- each of which may meet a fault, and then that is the fault of all
infixl 10 ◌>>!◌
abbrev pub ◌>>!◌ : {A B F : Type 0} → Result A F → (A → Result B F) → Result B F
(Ok x) >>! f = f x
(Err fault) >>! f = Err fault

-- ---- parts of what is parsed: a value, and the rest behind it

-- a value as part of another
abbrev pub within : {A B R : Type 0} → (A → B) → Option (A × R) → Option (B × R)
within whole None = None
within whole (Some x) = Some (whole x.0, x.1)

-- a value behind which nothing is left
abbrev pub alone : {A W : Type 0} → A → List W → Option A
alone x [] = Some x
alone x (w ∷ ws) = None

-- the value of the first word, and the words behind it
unfoldable pub first_word : {Y : Type 0} → (List ℕ → Option Y) → List (List ℕ) → Option (Y × List (List ℕ))
first_word parse [] = None
first_word parse (word ∷ words) = option_map (λ y. (y, words)) (parse word)

-- ---- what functions find

-- what a function found, seen by view, is what parsing gives
abbrev pub Finds : {X Y : Type 0} → (X → Y) → Option X → Option Y → Type 0
Finds view None parsed = parsed ≡ None
Finds view (Some x) parsed = parsed ≡ Some (view x)

-- the same of what may be refused, whatever the refusal
abbrev pub Answers : {E X Y : Type 0} → (X → Y) → Result X E → Option Y → Type 0
Answers view (Ok x) parsed = parsed ≡ Some (view x)
Answers view (Err e) parsed = parsed ≡ None

-- what a function found, seen by view, and the rest that it left, are what parsing gives
abbrev pub Moves : {X Y R : Type 0} → (X → Y) → Option X → R → Option (Y × R) → Type 0
Moves view None rest parsed = parsed ≡ None
Moves view (Some x) rest parsed = parsed ≡ Some (view x, rest)

-- ---- what functions find where parsing names the fault

-- what a function found, seen by view, or its fault
abbrev pub FindsOr : {X Y F : Type 0} → (X → Y) → Result X F → Result Y F → Type 0
FindsOr view (Ok x) parsed = parsed ≡ Ok (view x)
FindsOr view (Err fault) parsed = parsed ≡ Err fault

-- what a function found, seen by view, and the rest that it left, or its fault
abbrev pub MovesOr : {X Y R F : Type 0} → (X → Y) → Result X F → R → Result (Y × R) F → Type 0
MovesOr view (Ok x) rest parsed = parsed ≡ Ok (view x, rest)
MovesOr view (Err fault) rest parsed = parsed ≡ Err fault

-- an error's fault is that of parsing; one without a fault says nothing of it, as a refused growth
abbrev pub IsFault : {Y F : Type 0} → Option F → Result Y F → Type 0
IsFault (Some fault) parsed = parsed ≡ Err fault
IsFault None parsed = Unit {0}

-- what a call returned, seen by view, is what parsing gives, or an error with the fault that is told of it
abbrev pub Gives : {X Y E F : Type 0} → (E → Option F) → (X → Y) → Result X E → Result Y F → Type 0
Gives fault_of view (Ok x) parsed = parsed ≡ Ok (view x)
Gives fault_of view (Err e) parsed = IsFault (fault_of e) parsed
