-- What contracts see of a track file while it is written, and which items it has.
use Rattle.std.specs.Prelude.{◌≡◌, ℕ, ◌+◌, ◌*◌, ◌^◌, ◌≤◌, List, ◌++◌, length, All}
use Rattle.mast_world.specs.declared.volume.FileId.{FileId}
use Rattle.track_terms.specs.Facts.{PlainFacts, IsTrack}
use Rattle.track_terms.specs.Head.{head}
use Rattle.track_terms.specs.Track.{body, footer_of, places_from}

-- where its items so far are, and where the next one will be
pub record PlainTrack : Type 0 where
  pub facts : PlainFacts
  pub file : FileId
  pub places : List ℕ
  pub place : ℕ

-- the items are behind the head, no more than frames, and each of a length that three bytes tell
pub record IsTrackFile (track : PlainTrack) : Type 0 where
  pub facts_kept : IsTrack track.facts
  pub behind : All (λ place. 16508 ≤ place) track.places
  pub few : length track.places ≤ track.facts.frames
  pub head_kept : 16508 ≤ track.place
  pub near : track.place ≤ 16508 + length track.places * (20 + 2 ^ 24)

-- its items so far are those of these values
pub record HasValues (track : PlainTrack) (values : List (List ℕ)) : Type 0 where
  pub places : track.places ≡ places_from 16508 values
  pub place : track.place ≡ footer_of track.facts.kind values

-- and the file has them, behind a head that doesn't know the footer's place yet
pub record HasItems (track : PlainTrack) (values : List (List ℕ)) (bytes : List ℕ) : Type 0 where
  pub known : HasValues track values
  pub written : bytes ≡ head track.facts 0 ++ body track.facts.kind values
