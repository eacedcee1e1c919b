-- How it is drawn, in SVG.
use Rattle.std.specs.Prelude.{◌≡◌, ℕ, ◌+◌, ◌-◌, ◌*◌, ◌%◌, nat_lt, if◌then◌else◌, List, [], ◌∷◌, ◌++◌, map, length}
use Rattle.std.specs.Prelude.{codes}
use Rattle.std.specs.Prelude.{Option, Some, None}
use Rattle.std.specs.List.{flat_map}
use Rattle.std.specs.List.Sorted.{IsNonDecreasing, IsPermutation}
use Rattle.std.specs.Fmt.{decimal}
use Rattle.binding_rules.specs.declared.role.Role.{Role}
use Rattle.binding_rules.specs.declared.role.Role.TheVariants.{Primary, Secondary}
use Rattle.causal_order.specs.declared.reference.Ref.{Ref}
use Rattle.attribution.specs.VerdictText.{place_text}
use Rattle.report_render.specs.declared.axis.TheConstants.{LEFT, WIDTH}
use Rattle.report_render.specs.declared.styles.DrawingPart.{DrawingPart}
use Rattle.report_render.specs.declared.styles.DrawingPart.TheVariants as style
use Rattle.report_render.specs.declared.styles.TheConstants as text
use Rattle.report_render.specs.declared.picture.LeaseBar.{LeaseBar}
use Rattle.report_render.specs.declared.picture.LineDot.{LineDot}
use Rattle.report_render.specs.declared.picture.MessageArrow.{MessageArrow}
use Rattle.report_render.specs.declared.picture.Picture.{Picture}
use Rattle.report_render.specs.declared.labels.PictureLabels.{PictureLabels}
use Rattle.report_render.specs.Axis.{place}
use Rattle.report_render.specs.Labels.{AreLabels}

-- what of a drawing is always the same
unfoldable pub style_text : DrawingPart → List ℕ
style_text style.Head = text.HEAD.now
style_text style.BehindHeight = text.BEHIND_HEIGHT.now
style_text style.Height = text.HEIGHT.now
style_text style.Interval = text.INTERVAL.now
style_text style.Maybe = text.MAYBE.now
style_text style.Sure = text.SURE.now
style_text style.Label = text.LABEL.now
style_text style.Lane = text.LANE.now
style_text style.PrimaryName = text.PRIMARY_NAME.now
style_text style.SecondaryName = text.SECONDARY_NAME.now
style_text style.Beside = text.BESIDE.now
style_text style.Between = text.BETWEEN.now
style_text style.TextEnd = text.TEXT_END.now
style_text style.Mark = text.MARK.now
style_text style.MarkRight = text.MARK_RIGHT.now
style_text style.MarkLeft = text.MARK_LEFT.now
style_text style.Circle = text.CIRCLE.now
style_text style.CircleDown = text.CIRCLE_DOWN.now
style_text style.Dot = text.DOT.now
style_text style.Arrow = text.ARROW.now
style_text style.Tail = text.TAIL.now

abbrev pub attribute : List ℕ → ℕ → List ℕ
attribute name value = name ++ (decimal value ++ codes "\"")

unfoldable pub label_svg : (x y : ℕ) → Ref → List ℕ
label_svg x y r =
    codes "<text" ++ attribute (codes " x=\"") x ++ attribute (codes " y=\"") y ++ style_text style.Label
    ++ place_text r.side r.number ++ codes "</text>\n"

unfoldable pub rect_svg : (from to y : ℕ) → DrawingPart → List ℕ
rect_svg from to y s =
    codes "<rect" ++ attribute (codes " x=\"") from ++ attribute (codes " y=\"") y
    ++ attribute (codes " width=\"") (to - from + 1) ++ style_text s

-- what lasted for sure, if anything did
abbrev pub sure_svg : List ℕ → (y : ℕ) → Option (ℕ × ℕ) → List ℕ
sure_svg axis y None = []
sure_svg axis y (Some sure) =
    if nat_lt sure.0 sure.1 then rect_svg (place axis sure.0) (place axis sure.1) y style.Sure else []

unfoldable pub bar_svg : List ℕ → (y : ℕ) → LeaseBar → List ℕ
bar_svg axis y b =
    rect_svg (place axis b.earliest) (place axis b.latest) y style.Maybe ++ sure_svg axis y b.sure
    ++ label_svg 8 (y + 11) b.at

-- one under the other
abbrev pub bars_svg : List ℕ → (row : ℕ) → List LeaseBar → List ℕ
bars_svg axis row [] = []
bars_svg axis row (b ∷ bars) = bar_svg axis (50 + 22 * row) b ++ bars_svg axis (row + 1) bars

-- the lines of both sides, under the bars
abbrev pub first_lane : List LeaseBar → ℕ
first_lane bars = 90 + 22 * length bars

abbrev pub lane_of : (first : ℕ) → Role → ℕ
lane_of first Primary = first
lane_of first Secondary = first + 90

unfoldable pub lane_svg : (y : ℕ) → List ℕ
lane_svg y =
    codes "<line" ++ attribute (codes " x1=\"") LEFT ++ attribute (codes " y1=\"") y
    ++ attribute (codes " x2=\"") (LEFT + WIDTH) ++ attribute (codes " y2=\"") y ++ style_text style.Lane

unfoldable pub circle_svg : (x y : ℕ) → List ℕ
circle_svg x y =
    style_text style.Circle ++ decimal x ++ style_text style.CircleDown ++ decimal y ++ style_text style.Dot

-- what a server's lane is called
abbrev pub name_style : Role → DrawingPart
name_style Primary = style.PrimaryName
name_style Secondary = style.SecondaryName

-- a text that is always the same, at a place
unfoldable pub name_svg : (x y : ℕ) → DrawingPart → List ℕ
name_svg x y s =
    codes "<text" ++ attribute (codes " x=\"") x ++ attribute (codes " y=\"") y ++ style_text s

-- a server's lane and its name
abbrev pub side_svg : (first : ℕ) → Role → List ℕ
side_svg first side = lane_svg (lane_of first side) ++ name_svg 8 (lane_of first side + 5) (name_style side)

-- a line at its reading, its name in one of four rows under it
unfoldable pub dot_svg : List ℕ → (first index : ℕ) → LineDot → List ℕ
dot_svg axis first index d =
    circle_svg (place axis d.reading) (lane_of first d.at.side)
    ++ label_svg (place axis d.reading) (lane_of first d.at.side + 18 + 18 * (index % 4)) d.at

abbrev pub dots_svg : List ℕ → (first index : ℕ) → List LineDot → List ℕ
dots_svg axis first index [] = []
dots_svg axis first index (d ∷ dots) = dot_svg axis first index d ++ dots_svg axis first (index + 1) dots

unfoldable pub arrow_svg : List ℕ → (first : ℕ) → MessageArrow → List ℕ
arrow_svg axis first a =
    codes "<line" ++ attribute (codes " x1=\"") (place axis a.sent.reading)
    ++ attribute (codes " y1=\"") (lane_of first a.sent.at.side)
    ++ attribute (codes " x2=\"") (place axis a.taken.reading)
    ++ attribute (codes " y2=\"") (lane_of first a.taken.at.side) ++ style_text style.Arrow

-- the interval's times
unfoldable pub times_svg : PictureLabels → List ℕ
times_svg l =
    style_text style.Beside ++ l.from.items ++ style_text style.Between ++ l.to.items ++ style_text style.TextEnd

-- the interval, behind the bars
unfoldable pub interval_svg : List ℕ → Picture → List ℕ
interval_svg axis p =
    rect_svg (place axis p.from) (place axis p.to) 10 style.Height ++ decimal (first_lane p.bars.items)
    ++ style_text style.Interval

unfoldable pub back_svg : List ℕ → Picture → List ℕ
back_svg axis p =
    style_text style.Head ++ decimal (first_lane p.bars.items + 175) ++ style_text style.BehindHeight
    ++ interval_svg axis p

-- the lines of both sides, and the messages between them
unfoldable pub lines_svg : List ℕ → (first : ℕ) → Picture → List ℕ
lines_svg axis first p =
    side_svg first Primary ++ side_svg first Secondary ++ flat_map (arrow_svg axis first) p.arrows.items
    ++ dots_svg axis first 0 p.dots.items

-- a name stands to the right of its mark, or to the left in the right half
abbrev pub mark_style : (x : ℕ) → DrawingPart
mark_style x = if nat_lt x 530 then style.MarkRight else style.MarkLeft

-- a moment marked from above the bars down to the secondary's lane, and its time
unfoldable pub mark_svg : (x first : ℕ) (time : List ℕ) → List ℕ
mark_svg x first time =
    codes "<line" ++ attribute (codes " x1=\"") x ++ attribute (codes " y1=\"") 46
    ++ attribute (codes " x2=\"") x ++ attribute (codes " y2=\"") (first + 90) ++ style_text style.Mark
    ++ name_svg x 42 (mark_style x) ++ time ++ style_text style.TextEnd

-- the moment that was asked about, where it was one
abbrev pub asked_svg : List ℕ → (first : ℕ) → Option ℕ → (time : List ℕ) → List ℕ
asked_svg axis first None time = []
asked_svg axis first (Some at) time = mark_svg (place axis at) first time

abbrev pub picture_svg : List ℕ → Picture → PictureLabels → List ℕ
picture_svg axis p l =
    back_svg axis p ++ times_svg l ++ bars_svg axis 0 p.bars.items ++ lines_svg axis (first_lane p.bars.items) p
    ++ asked_svg axis (first_lane p.bars.items) p.asked l.asked.items ++ style_text style.Tail

-- ---- the moments that stand in it

abbrev pub moments_between : ℕ → Option (ℕ × ℕ) → ℕ → List ℕ
moments_between earliest None latest = earliest ∷ latest ∷ []
moments_between earliest (Some sure) latest = earliest ∷ sure.0 ∷ sure.1 ∷ latest ∷ []

abbrev pub bar_moments : LeaseBar → List ℕ
bar_moments b = moments_between b.earliest b.sure b.latest

abbrev pub asked_moments : Option ℕ → List ℕ
asked_moments None = []
asked_moments (Some at) = at ∷ []

abbrev pub moments_of : Picture → List ℕ
moments_of p = (p.from ∷ p.to ∷ asked_moments p.asked) ++ flat_map bar_moments p.bars.items ++ map (λ d. d.reading) p.dots.items

-- over these, in their order
pub record IsSvg (p : Picture) (text : List ℕ) : Type 0 where
  pub axis : List ℕ
  pub sorted : IsNonDecreasing axis
  pub whole : IsPermutation (moments_of p) axis
  pub labels : PictureLabels
  pub labels_are : AreLabels p labels
  pub drawn : text ≡ picture_svg axis p labels
