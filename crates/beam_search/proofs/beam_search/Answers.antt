-- `beam_search::beam_search` meets its contract: the tables are filled, the search finds a plan, and its row is read back.
use Rattle.beam_search.specs.Found.{searched}
use Rattle.beam_search.proofs.beam_search.Goals as goal

pub returns : goal.returns
returns c =
    searched _ _ _ _ _ c.requires c.search-found.result.full c.fill_ends.ensures c.search-found.ensures c.read_row.ensures
