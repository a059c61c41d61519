mod Progress
mod TotalLine
