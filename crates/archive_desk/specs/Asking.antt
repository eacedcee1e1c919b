-- How two volumes end of which something is asked.
use Rattle.journal_archive.specs.declared.outline.FiledVolume.{FiledVolume}
use Rattle.journal_archive.specs.declared.outline.VolumeEnding.{VolumeEnding}
use Rattle.journal_archive.specs.declared.outline.VolumeEnding.TheVariants.{Closed as EndsClosed, GoesOn}
use Rattle.journal_archive.specs.declared.pair_lookup.VolumePair.{VolumePair}
use Rattle.candidate_leases.specs.declared.volume_ends.VolumeEnd.{VolumeEnd}
use Rattle.candidate_leases.specs.declared.volume_ends.VolumeEnd.TheVariants.{Closed, Open}
use Rattle.candidate_leases.specs.declared.volume_ends.VolumeEnds.{VolumeEnds}

abbrev pub end_by : VolumeEnding → VolumeEnd
end_by EndsClosed = Closed
end_by GoesOn = Open

-- whether its server goes on with it
abbrev pub volume_end : FiledVolume → VolumeEnd
volume_end volume = end_by volume.outline.ending

-- the same of both
abbrev pub ends_of : VolumePair → VolumeEnds
ends_of pair = record { primary = volume_end pair.primary; secondary = volume_end pair.secondary }
