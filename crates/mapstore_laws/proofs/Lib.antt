mod LeftJournals
mod OpenedBack
