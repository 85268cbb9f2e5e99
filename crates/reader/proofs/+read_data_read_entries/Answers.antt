use Rattle.reader.proofs.Reading.{reads}
use Rattle.reader.proofs.+read_data_read_entries.Goals as goal

pub read_data-returns-then-left-eq0 : goal.read_data-returns-then-left-eq0
read_data-returns-then-left-eq0 t c = search reads

pub read_data-returns-then-not-sound_data : goal.read_data-returns-then-not-sound_data
read_data-returns-then-not-sound_data t c = search reads

pub read_data-returns-then-size-le254 : goal.read_data-returns-then-size-le254
read_data-returns-then-size-le254 t c = search reads

pub read_data-returns : goal.read_data-returns
read_data-returns t c = search reads

pub read_entries-returns-then-left-eq0 : goal.read_entries-returns-then-left-eq0
read_entries-returns-then-left-eq0 t c = search reads

pub read_entries-returns-then-not-sound_entry : goal.read_entries-returns-then-not-sound_entry
read_entries-returns-then-not-sound_entry t c = search reads

pub read_entries-returns-then-size-eq0 : goal.read_entries-returns-then-size-eq0
read_entries-returns-then-size-eq0 t c = search reads

pub read_entries-returns : goal.read_entries-returns
read_entries-returns t c = search reads
