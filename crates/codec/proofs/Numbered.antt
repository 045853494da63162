-- How long the spellings are that begin with numbers.
use Rattle.codec.proofs.Fields.{length-number, numbers_length}

pub ruleset number_lengths = (length-number, numbers_length)
