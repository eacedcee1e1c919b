-- What of a page's origin and its checks is always the same.
use Rattle.std.specs.Prelude.{ℕ, List}
use Rattle.report_render.specs.declared.origin_template.OriginPart.{OriginPart}
use Rattle.report_render.specs.declared.origin_template.OriginPart.TheVariants as part
use Rattle.report_render.specs.declared.origin_template.TheConstants as template

-- the text of each part
unfoldable pub origin_text : OriginPart → List ℕ
origin_text part.BeforeCertificate = template.BEFORE_CERTIFICATE.now
origin_text part.CertificateEnd = template.CERTIFICATE_END.now
origin_text part.BeforeProgram = template.BEFORE_PROGRAM.now
origin_text part.BeforeSums = template.BEFORE_SUMS.now
origin_text part.PrimarySum = template.PRIMARY_SUM.now
origin_text part.SecondarySum = template.SECONDARY_SUM.now
origin_text part.CertificateSum = template.CERTIFICATE_SUM.now
origin_text part.BeforeSum = template.BEFORE_SUM.now
origin_text part.SumEnd = template.SUM_END.now
origin_text part.SumsEnd = template.SUMS_END.now
origin_text part.BeforeInput = template.BEFORE_INPUT.now
origin_text part.BehindInput = template.BEHIND_INPUT.now
origin_text part.InputEnd = template.INPUT_END.now
origin_text part.BeforeCopied = template.BEFORE_COPIED.now
origin_text part.FirstVolume = template.FIRST_VOLUME.now
origin_text part.LastVolume = template.LAST_VOLUME.now
origin_text part.UpToLine = template.UP_TO_LINE.now
origin_text part.CopyCommand = template.COPY_COMMAND.now
origin_text part.FromOption = template.FROM_OPTION.now
origin_text part.ToOption = template.TO_OPTION.now
origin_text part.LinesOption = template.LINES_OPTION.now
origin_text part.IntoFile = template.INTO_FILE.now
origin_text part.CommandEnd = template.COMMAND_END.now
origin_text part.BeforeAudit = template.BEFORE_AUDIT.now
origin_text part.BeforeSecondAudit = template.BEFORE_SECOND_AUDIT.now
origin_text part.BeforeWho = template.BEFORE_WHO.now
origin_text part.SkewOption = template.SKEW_OPTION.now
origin_text part.TransitOption = template.TRANSIT_OPTION.now
origin_text part.PrefixOption = template.PREFIX_OPTION.now
origin_text part.AtOption = template.AT_OPTION.now
origin_text part.FromInput = template.FROM_INPUT.now
origin_text part.BeforeFilesAudit = template.BEFORE_FILES_AUDIT.now
origin_text part.AuditFiles = template.AUDIT_FILES.now
origin_text part.BeforeFilesWho = template.BEFORE_FILES_WHO.now
origin_text part.WhoFiles = template.WHO_FILES.now
origin_text part.AtUnit = template.AT_UNIT.now
origin_text part.SettingsOption = template.SETTINGS_OPTION.now
origin_text part.WhoFilesEnd = template.WHO_FILES_END.now
