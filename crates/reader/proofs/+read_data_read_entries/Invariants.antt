-- Each hands over to the other: the blocks left fall.
use Rattle.reader.proofs.+read_data_read_entries.Given as goal

abbrev pub decreases-read_data : goal.decreases-read_data
decreases-read_data l = l.left

abbrev pub decreases-read_entries : goal.decreases-read_entries
decreases-read_entries l = l.left
