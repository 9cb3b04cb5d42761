-- What both kinds of clips have.
use Rattle.std.specs.Prelude.{◌≡◌, ℕ, ◌+◌, ◌≤◌, codes}
use Rattle.serde_json.specs.Data.{Data}
use Rattle.film_project.specs.Members.{number_in, text_in}
use Rattle.film_reader.specs.declared.clips.Members.{Members}

-- the members of a clip that are there, and in their ranges
pub record IsMembers (frames : ℕ) (m : Members) (d : Data) : Type 0 where
  pub asset : m.asset.now ≡ text_in (codes "asset") d
  pub at : m.at ≡ number_in (codes "at") 0 d
  pub from : m.from ≡ number_in (codes "from") 0 d
  pub count : m.count ≡ number_in (codes "count") 0 d
  pub most_at : m.at ≤ 431999
  pub most_from : m.from ≤ 999999
  pub some_count : 1 ≤ m.count
  pub ends : m.at + m.count ≤ frames
