-- What is written of a moment has the form of a time, and shows it.
use Rattle.std.specs.Prelude.{◌≡◌, ℕ, zero, suc, ◌+◌, ◌-◌, ◌*◌, ◌/◌, ◌%◌, ◌<◌, ◌≤◌, true, List, [], ◌∷◌, ◌++◌, codes}
use Rattle.std.specs.Prelude.{get_or, length}
use Rattle.std.proofs.Common.{arith, refl, ap, subst, sym, inl, inr}
use Rattle.std.proofs.lemmas.Bool.Decides.{nat_tests}
use Rattle.time_text.specs.declared.calendar.Date.{Date}
use Rattle.time_text.specs.declared.clock.Clock.{Clock}
use Rattle.time_text.specs.Calendar.{IsDate, IsClock, IsShownAt, utc}
use Rattle.time_text.specs.Time.{is_alike, IsLike, IsTimeOf, IsClockText, two, three, date_of, clock_of, date_text}
use Rattle.time_text.specs.Time.{clock_text, fraction}
use Rattle.time_text.proofs.Months.{month_long}
use Rattle.time_text.proofs.Forms.{same_shown}
use Rattle.std.specs.Char.{is_ascii_digit}

one_digit : (d : ℕ) → d ≤ 9 → is_alike 48 (48 + d) ≡ true
one_digit d le = grind (arith, nat_tests)

no_more : IsLike [] []
no_more = record { long = refl; each = λ k lt. absurd (omega arith) }

each_more : (form octet : ℕ) (forms text : List ℕ) → is_alike form octet ≡ true → IsLike forms text
    → (k : ℕ) → k < suc (length forms) → is_alike (get_or (form ∷ forms) k 0) (get_or (octet ∷ text) k 0) ≡ true
each_more form octet forms text is rest zero lt = is
each_more form octet forms text is rest (suc k) lt = rest.each k (omega arith)

one_more : (form octet : ℕ) (forms text : List ℕ) → is_alike form octet ≡ true → IsLike forms text
    → IsLike (form ∷ forms) (octet ∷ text)
one_more form octet forms text is rest =
    record { long = ap suc rest.long; each = each_more form octet forms text is rest }

two_more : (n : ℕ) (forms text : List ℕ) → n ≤ 99 → IsLike forms text → IsLike (48 ∷ 48 ∷ forms) (two n ++ text)
two_more n forms text le rest = one_more 48 _ _ _ (one_digit (n / 10) (omega arith))
    (one_more 48 _ _ _ (one_digit (n % 10) (omega arith)) rest)

day_long : (d : Date) → IsDate d → d.day ≤ 99
day_long d is = omega (arith, is.to_last, month_long d.year d.month)

front : (d : Date) (c : Clock) → IsDate d → d.year ≤ 9999 → IsClock c
    → IsLike (codes "0000-00-00T00:00:00") (two (d.year / 100)
    ++ (two (d.year % 100) ++ (45 ∷ two d.month
    ++ (45 ∷ two d.day ++ (84 ∷ two c.hour ++ (58 ∷ two c.minute ++ (58 ∷ two c.second)))))))
front d c date year clock =
    two_more (d.year / 100) _ _ (omega arith) (two_more (d.year % 100) _ _ (omega arith) (one_more 45 45 _ _ refl
    (two_more d.month _ _ (omega (arith, date.to_december))
    (one_more 45 45 _ _ refl (two_more d.day _ _ (day_long d date) (one_more 84 84 _ _ refl
    (two_more c.hour _ _ (omega (arith, clock.hour))
    (one_more 58 58 _ _ refl (two_more c.minute _ _ (omega (arith, clock.minute)) (one_more 58 58 _ _ refl
    (two_more c.second [] [] (omega (arith, clock.second)) no_more)))))))))))

back : (n : ℕ) → n ≤ 999 → IsLike (codes ".000Z") (46 ∷ three n ++ 90 ∷ [])
back n le = one_more 46 46 _ _ refl (one_more 48 _ _ _ (one_digit (n / 100) (omega arith))
    (two_more (n % 100) _ _ (omega arith) (one_more 90 90 _ _ refl no_more)))

-- ---- what it shows

two_back : (n : ℕ) → 10 * (48 + n / 10 - 48) + (48 + n % 10 - 48) ≡ n
two_back n = omega arith

is_digit : (d : ℕ) → d ≤ 9 → is_ascii_digit (48 + d) ≡ true
is_digit d le = grind (arith, nat_tests)

no_less : (d : ℕ) → 48 + d - 48 ≡ d
no_less d = omega arith

one_read : (worth d : ℕ) (rest : List ℕ) → d ≤ 9 → fraction worth ((48 + d) ∷ rest)
    ≡ worth * d + fraction (worth / 10) rest
unfolding fraction
one_read worth d rest le = rw (is_digit d le) (ap (λ (x : ℕ). worth * x + fraction (worth / 10) rest) (no_less d))

stopped : fraction 0 (90 ∷ []) ≡ 0
unfolding fraction
stopped = refl

three_read : (n : ℕ) → n ≤ 999 → fraction 100 (three n ++ 90 ∷ []) ≡ n
three_read n le =
    omega (
      arith,
      one_read 100 (n / 100) (two (n % 100) ++ 90 ∷ []) (omega arith),
      one_read 10 (n % 100 / 10) ((48 + n % 100 % 10) ∷ 90 ∷ []) (omega arith),
      one_read 1 (n % 100 % 10) (90 ∷ []) (omega arith),
      stopped,
    )

same_date : (d : Date) (year month day : ℕ) → year ≡ d.year → month ≡ d.month → day ≡ d.day
    → record { year = year; month = month; day = day } ≡ d
same_date d year month day a b c = rw (a, b, c) refl

same_clock : (k : Clock) (hour minute second millisecond : ℕ) → hour ≡ k.hour → minute ≡ k.minute → second ≡ k.second
    → millisecond ≡ k.millisecond
    → record { hour = hour; minute = minute; second = second; millisecond = millisecond } ≡ k
same_clock k hour minute second millisecond a b c d = rw (a, b, c, d) refl

year_back : (n y : ℕ) → 100 * (10 * (48 + n / 100 / 10 - 48) + (48 + n / 100 % 10 - 48)) +
    (10 * (48 + n % 100 / 10 - 48) + (48 + n % 100 % 10 - 48)) ≡ n
year_back n y = omega arith

abbrev text_of : Date → Clock → List ℕ
text_of d c = date_text d ++ (84 ∷ clock_text c ++ 90 ∷ [])

date_back : (d : Date) (c : Clock) → date_of (text_of d c) ≡ d
date_back d c = same_date d _ _ _ (year_back d.year 0) (two_back d.month) (two_back d.day)

clock_back : (d : Date) (c : Clock) → c.millisecond ≤ 999 → clock_of (text_of d c) ≡ c
clock_back d c le = same_clock c _ _ _ _ (two_back c.hour) (two_back c.minute) (two_back c.second)
    (three_read c.millisecond le)

shown : (d : Date) (c : Clock) (m : ℕ) → IsDate d → d.year ≤ 9999 → IsClock c → c.millisecond ≤ 999
    → IsShownAt d c utc m → IsTimeOf (text_of d c) m
shown d c m date year clock le at = record {
  form = (front d c date year clock, inr (inr (inr (inl (back c.millisecond le)))));
  date = subst IsDate (sym (date_back d c)) date;
  clock = subst IsClock (sym (clock_back d c le)) clock;
  offset = record { hour = omega arith; minute = omega arith };
  moment = same_shown _ _ _ _ utc _ m (sym (date_back d c)) (sym (clock_back d c le)) refl at;
}

pub read_again : (text : List ℕ) (m : ℕ) → IsClockText m text → IsTimeOf text m
read_again text m is = subst (λ (t : List ℕ). IsTimeOf t m) (sym is.spelled)
    (shown is.date is.clock m is.date_is is.four_digits is.clock_is is.three_decimals is.moment)
