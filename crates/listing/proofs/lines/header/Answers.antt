use Rattle.model.specs.Listing.{header, bytes_of_text}
use borrow.Author.Rules.{rules}
use Rattle.listing.proofs.lines.header.Goals as goal

pub returns : goal.returns
unfolding header bytes_of_text
returns c = record { put = search rules; upper_bound = search rules }
