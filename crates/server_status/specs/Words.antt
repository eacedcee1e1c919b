-- The lines by which a person tells a server something, and what it answers.
use Rattle.std.specs.Prelude.{◌≡◌, ◌≢◌, ℕ, ◌<◌, List, ◌∷◌, ◌++◌, length, get_or, codes, Option, Some, None}
use Rattle.std.specs.Prelude.{bytes_eq, if◌then◌else◌}
use Rattle.server_status.specs.declared.control_request.ControlRequest.{ControlRequest}
use Rattle.server_status.specs.declared.control_request.ControlRequest.TheVariants.{Status, Stop, Roll}
use Rattle.server_status.specs.declared.control_request.ControlRequest.TheVariants.{PartnerDown, PartnerNormal, AcceptClock}
use Rattle.server_status.specs.declared.control_request.StatusFormat.TheVariants.{Lines, Json, Metrics}
use Rattle.server_status.specs.declared.control_request.ShutdownMode.TheVariants.{Open, Closed}
use Rattle.server_status.specs.declared.control_reply.ControlVerdict.{ControlVerdict}
use Rattle.server_status.specs.declared.control_reply.ControlVerdict.TheVariants.{Done, Refused}
use Rattle.server_status.specs.declared.control_reply.ControlReply.{ControlReply}

-- ---- requests

-- the line of a request, without its line feed
abbrev pub request_words : ControlRequest → List ℕ
request_words (Status Lines) = codes "status"
request_words (Status Json) = codes "status json"
request_words (Status Metrics) = codes "status metrics"
request_words (Stop Open) = codes "stop"
request_words (Stop Closed) = codes "stop close"
request_words Roll = codes "roll"
request_words PartnerDown = codes "partner-down the partner is stopped"
request_words PartnerNormal = codes "partner-normal"
request_words AcceptClock = codes "clock-accepted the clock is right"

-- the request whose line this is
unfoldable pub request_of : List ℕ → Option ControlRequest
request_of line =
    if bytes_eq line (codes "status") then Some (Status Lines)
    else (if bytes_eq line (codes "status json") then Some (Status Json)
    else (if bytes_eq line (codes "status metrics") then Some (Status Metrics)
    else (if bytes_eq line (codes "stop") then Some (Stop Open)
    else (if bytes_eq line (codes "stop close") then Some (Stop Closed)
    else (if bytes_eq line (codes "roll") then Some Roll
    else (if bytes_eq line (codes "partner-down the partner is stopped") then Some PartnerDown
    else (if bytes_eq line (codes "partner-normal") then Some PartnerNormal
    else (if bytes_eq line (codes "clock-accepted the clock is right") then Some AcceptClock
    else None))))))))

-- ---- answers

-- the first line of an answer, without its line feed
abbrev pub verdict_words : ControlVerdict → List ℕ
verdict_words Done = codes "ok"
verdict_words (Refused reason) = codes "refused" ++ 32 ∷ reason.now

-- that line, and then a text up to the end
abbrev pub answer_words : ControlReply → List ℕ
answer_words a = verdict_words a.verdict ++ 10 ∷ a.text.now

-- no octet is a line feed
abbrev pub IsOneLine : List ℕ → Type 0
IsOneLine words = (k : ℕ) → k < length words → get_or words k 0 ≢ 10

-- an answer whose first line is one
abbrev pub IsControlReply : List ℕ → ControlReply → Type 0
IsControlReply words a = (words ≡ answer_words a) × IsOneLine (verdict_words a.verdict)
